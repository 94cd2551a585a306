-- What a saved text is to be gone on from, or its first fault.
use Rattle.std.specs.Prelude.{◌≡◌, ℕ, ◌==◌, List, Option, Some, None, Ok, Err, if◌then◌else◌, length, map}
use Rattle.std.specs.Result.{result_ok}
use Rattle.fixed_flow.specs.Sequence.{◌>>=◌}
use Rattle.network_file.specs.Network.{Network}
use Rattle.network_file.specs.Reading.{network_of}
use Rattle.region_cut.specs.Chart.{ChartLists, chart_of}
use Rattle.region_cut.specs.CutFaults.{cut_of}
use Rattle.region_cut.specs.Cuttings.{region_count}
use Rattle.region_cut.specs.LawfulSteps.{AreLawful}
use Rattle.region_step.specs.Start.{StartLists}
use Rattle.region_step.specs.Starting.{Fits}
use Rattle.saved_run.specs.Content.{Content}
use Rattle.saved_run.specs.declared.fault.LoadFault.{LoadFault}
use Rattle.saved_run.specs.declared.fault.LoadFault.TheVariants.{Spelling, Network as OfNetwork, Cutting, Start}

-- the cutting that the row lines of a content give, where it has a step for each region
unfoldable pub cutting_in : Network → Content → Option (List ℕ)
cutting_in net content = do
  cut ← result_ok (cut_of net (map (λ line. line.region) content.rows))
  if region_count cut == length content.steps then Some cut else None

-- where the regions start
abbrev pub start_in : Content → StartLists
start_in content = record {
  steps = content.steps;
  rows = map (λ line. line.row) content.rows;
  earlier = map (λ line. line.earlier) content.rows;
}

-- the regions can be opened there, and neighbours stand at most one step apart
pub record CanStart (net : Network) (cut : List ℕ) (start : StartLists) : Type 0 where
  pub fits : Fits net cut start
  pub lawful : AreLawful net cut start.steps

-- a content is of this network, cut so
pub record IsCutSo (content : Content) (net : Network) (cut : List ℕ) : Type 0 where
  pub network : network_of content.network ≡ Ok net
  pub cutting : cutting_in net content ≡ Some cut

-- the content is of this network, charted so, and its regions can go on from this start
pub record GoesOn (content : Content) (net : Network) (chart : ChartLists) (start : StartLists) : Type 0 where
  pub cut_so : IsCutSo content net chart.cut
  pub charted : chart ≡ chart_of net chart.cut
  pub begins : start ≡ start_in content
  pub can_start : CanStart net chart.cut start

-- the first fault of a content
abbrev pub IsContentFault : Content → LoadFault → Type 0
IsContentFault content Spelling = ⊥
IsContentFault content (OfNetwork fault) = network_of content.network ≡ Err fault
IsContentFault content Cutting = (net : Network) × (network_of content.network ≡ Ok net) × (cutting_in net content ≡ None)
IsContentFault content Start = (net : Network) × (cut : List ℕ) × IsCutSo content net cut × ¬ (CanStart net cut (start_in content))

-- the first fault of a text, by the content that it has
abbrev pub IsLoadFault : Option Content → LoadFault → Type 0
IsLoadFault None fault = fault ≡ Spelling
IsLoadFault (Some content) fault = IsContentFault content fault

-- A made network that is run: why it has no text, and which text it has.
use Rattle.std.specs.Prelude.{◌≡◌, ◌≢◌, ℕ, List, Option, None, ◌++◌, length, codes, IsOkAnd}
use Rattle.command_words.specs.declared.request.Request.{Request}
use Rattle.network_file.specs.Network.{Network}
use Rattle.network_file.specs.Reading.{network_of}
use Rattle.region_cut.specs.Cuttings.{even_cutting}
use Rattle.flow_model.specs.State.{state_at}
use Rattle.line_fields.specs.Fields.{count_field}
use Rattle.delay_report.specs.Report.{total_line}
use Rattle.call_ending.specs.Why.{Why}
use Rattle.call_beginning.specs.NetworkInput.{why_of_network}
use Rattle.call_beginning.specs.Task.{Task}
use Rattle.call_beginning.specs.UsedCutting.{regions_asked}

abbrev pub sample_refused : Task → Option Why
sample_refused task = why_of_network (network_of task.input) (λ net. None)

-- `sample,size,seed,cells,connectors,T`
unfoldable pub sample_line : (size seed : ℕ) → Network → List ℕ
sample_line size seed net =
    codes "sample" ++ count_field size ++ count_field seed ++ count_field (length net.cells) ++ count_field (length net.connectors)
    ++ count_field net.steps ++ codes "\n"

-- and the report's line of totals
unfoldable pub sample_of : (size seed : ℕ) → Network → List ℕ
sample_of size seed net = sample_line size seed net ++ total_line net (state_at net net.steps)

abbrev pub IsSampleText : Task → List ℕ → Type 0
IsSampleText task text = IsOkAnd (network_of task.input) (λ net. text ≡ sample_of task.request.size task.request.seed net)

-- the cutting in which a made network is run: the file's where it has one, and else the even one
pub record IsSampleCutting (net : Network) (request : Request) (cut : List ℕ) : Type 0 where
  pub own : length net.regions ≢ 0 → cut ≡ net.regions
  pub even : length net.regions ≡ 0 → cut ≡ even_cutting (length net.cells) (regions_asked net request)

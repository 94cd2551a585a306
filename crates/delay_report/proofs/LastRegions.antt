-- What regions at the last step have of their cells.
use Rattle.std.specs.Prelude.{flat_map, slice_index, slice_index_or}
use Rattle.std.proofs.Common.{◌≡◌, ℕ, ◌<◌, inl, inr, [], map, sym, ap, subst, ◌∙◌, arith}
use Rattle.std.proofs.lemmas.Bool.{cases_eq}
use Rattle.std.proofs.lemmas.List.{get_or-replicate}
use Rattle.region_cut.specs.Chart.{list_at}
use Rattle.region_cut.specs.Cuttings.{region_count}
use Rattle.region_step.specs.Grid.{grid_row}
use Rattle.region_step.specs.Laws.{grid_rows, grid_state, grid_trail}
use Rattle.region_step.specs.Recording.{recorded}
use Rattle.region_step.specs.Noting.{notes_of}
use Rattle.region_step.specs.Region.{RegionValue}
use Rattle.region_step.specs.Regions.{AreAtLast, HaveCome, RegionsValue}
use Rattle.region_step.specs.Setup.{SetupValue}
use Rattle.region_step.specs.Standing.{Stands}
use Rattle.delay_report.specs.FromStart.{IsRecordedFromZero}
use Rattle.delay_report.proofs.RecordedSteps.{recorded-none}

-- they are there as their setup brings them there
pub at_last : (regions : RegionsValue) (r : ℕ) (region : RegionValue) → HaveCome regions.setup regions.steps regions.list → AreAtLast regions →
    r < region_count regions.setup.chart.cut → Stands regions.setup r regions.setup.net.steps (slice_index_or regions.list r region)
at_last regions r region come last within =
    let step : slice_index regions.steps r ≡ regions.setup.net.steps =
    ap (λ steps. slice_index steps r) last ∙ get_or-replicate (region_count regions.setup.chart.cut) r regions.setup.net.steps 0 within in
    subst (λ t. Stands regions.setup r t (slice_index_or regions.list r region)) step (come.stand.each r region (omega (arith, within, come.stand.one_each)))

-- the recorded steps from a region's start are all of them
recorded-whole : (setup : SetupValue) (r : ℕ) → IsRecordedFromZero setup →
    recorded setup.net.steps setup.every (slice_index setup.start.steps r) setup.net.steps ≡ recorded setup.net.steps setup.every 0 setup.net.steps
recorded-whole setup r from_zero = elim (cases_eq setup.every 0) [
  | inl never ↦
      let none : (from : ℕ) → recorded setup.net.steps setup.every from setup.net.steps ≡ [] =
      λ from. ap (λ every. recorded setup.net.steps every from setup.net.steps) never ∙ recorded-none setup.net.steps from setup.net.steps in
      none (slice_index setup.start.steps r) ∙ sym (none 0)
  | inr some ↦ ap (λ from. recorded setup.net.steps setup.every from setup.net.steps) (from_zero some r)
]

-- its notes are of all of them
pub last-trail : (setup : SetupValue) (r : ℕ) (region : RegionValue) → Stands setup r setup.net.steps region → IsRecordedFromZero setup →
    region.state.trail ≡ flat_map (λ t. notes_of (map (grid_row setup.net setup.chart.cut setup.start t) (list_at setup.chart.cells r))) (recorded setup.net.steps setup.every 0 setup.net.steps)
unfolding grid_state grid_trail grid_rows
last-trail setup r region stands from_zero =
    ap (λ state. state.trail) stands.state ∙
    ap (flat_map (λ t. notes_of (map (grid_row setup.net setup.chart.cut setup.start t) (list_at setup.chart.cells r)))) (recorded-whole setup r from_zero)

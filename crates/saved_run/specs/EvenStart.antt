-- The start at which a run goes on in another cutting.
use Rattle.std.specs.Prelude.{◌≡◌, ◌≢◌, ℕ, ◌<◌, List, length, map, replicate, slice_index, slice_index_or}
use Rattle.network_file.specs.Network.{Network}
use Rattle.flow_model.specs.State.{row_at}
use Rattle.region_cut.specs.Chart.{ChartLists, list_at}
use Rattle.region_cut.specs.Cuttings.{region_count}
use Rattle.region_step.specs.Region.{RegionValue}
use Rattle.region_step.specs.Start.{StartLists}
use Rattle.region_step.specs.Starting.{IsTrueStart}

-- all regions of a cutting start at step u, where the cells have the rows of other regions, which are those of a chart,
-- and held what these held a step before
pub record IsEvenStart (chart : ChartLists) (regions : List RegionValue) (u : ℕ) (cut : List ℕ) (start : StartLists) : Type 0 where
  pub steps : start.steps ≡ replicate (region_count cut) u
  pub row_each : length start.rows ≡ length chart.cut
  pub earlier_each : length start.earlier ≡ length chart.cut
  pub rows : (r : ℕ) (region : RegionValue) → r < region_count chart.cut →
      (slice_index_or regions r region).state.rows ≡ map (row_at start.rows) (list_at chart.cells r)
  pub earlier : (r : ℕ) (region : RegionValue) → r < region_count chart.cut →
      (slice_index_or regions r region).state.before ≡ map (slice_index start.earlier) (list_at chart.cells r)

-- a true start, whose steps are all below u where u isn't 0
pub record IsTrueBelow (net : Network) (cut : List ℕ) (start : StartLists) (u : ℕ) : Type 0 where
  pub true_start : IsTrueStart net cut start
  pub below : u ≢ 0 → (r : ℕ) → r < region_count cut → slice_index start.steps r < u

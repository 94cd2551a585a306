-- All regions of a network at one step, whichever body they have.
use Rattle.std.specs.Prelude.{◌≡◌, ℕ, ◌<◌, List, Some, None, length, slice_index, slice_index_or}
use Rattle.network_file.specs.Network.{Network}
use Rattle.flow_model.specs.Bounds.{IsHeldInBounds}
use Rattle.region_cut.specs.Chart.{ChartLists, list_at}
use Rattle.region_cut.specs.Cuttings.{region_count}
use Rattle.region_step.specs.Advance.{HasRowsInBounds}
use Rattle.region_step.specs.Opened.{halo_cells}
use Rattle.region_step.specs.Region.{RegionState}

-- what holds at each step of a region that was opened with this chart
pub record IsShaped (chart : ChartLists) (state : RegionState) : Type 0 where
  pub there : state.number < region_count chart.cut
  pub rows : length state.rows ≡ length (list_at chart.cells state.number)
  pub before : length state.before ≡ length (list_at chart.cells state.number)
  pub put : length state.put ≡ length (list_at chart.halo state.number)

-- region q stands at step t, with its rows in bounds
pub record IsAt (net : Network) (chart : ChartLists) (q t : ℕ) (state : RegionState) : Type 0 where
  pub number : state.number ≡ q
  pub step : state.step ≡ t
  pub bounds : HasRowsInBounds net chart state

-- of the first j cells of its halo it is told occupancies in bounds
pub record IsTold (net : Network) (chart : ChartLists) (j : ℕ) (state : RegionState) : Type 0 where
  pub each : (k : ℕ) → k < j →
      (n : ℕ) × (slice_index_or state.put k None ≡ Some n) × IsHeldInBounds net state.step (slice_index (halo_cells chart state.number) k) n

-- each region stands at step t; that one was opened with this network and this chart is said by is_in
pub record AllAt {X : Type 0} (is_in : X → Type 0) (state : X → RegionState) (net : Network) (chart : ChartLists) (t : ℕ) (regions : List X) : Type 0 where
  pub one_each : length regions ≡ region_count chart.cut
  pub each : (q : ℕ) (region : X) → q < length regions →
      is_in (slice_index_or regions q region) × IsAt net chart q t (state (slice_index_or regions q region))

-- each of the regions below r is told of its whole halo
pub record AllTold {X : Type 0} (state : X → RegionState) (net : Network) (chart : ChartLists) (r : ℕ) (regions : List X) : Type 0 where
  pub each : (q : ℕ) (region : X) → q < r → IsTold net chart (length (list_at chart.halo q)) (state (slice_index_or regions q region))

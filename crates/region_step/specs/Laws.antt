-- A region of a start at each step, and the two laws of its rows.
use Rattle.std.specs.Prelude.{◌≡◌, ℕ, ◌<◌, ◌≤◌, List, Some, None, flat_map, length, map, replicate, slice_index}
use Rattle.network_file.specs.Network.{Network}
use Rattle.flow_model.specs.Bounds.{IsRowInBounds}
use Rattle.flow_model.specs.State.{row_at, state_at}
use Rattle.region_cut.specs.Chart.{ChartLists, list_at}
use Rattle.region_step.specs.Grid.{grid_before, grid_row}
use Rattle.region_step.specs.Opened.{halo_cells}
use Rattle.region_step.specs.Recording.{recorded}
use Rattle.region_step.specs.Noting.{notes_of}
use Rattle.region_step.specs.Region.{RegionState}
use Rattle.region_step.specs.Start.{StartLists}
use Rattle.region_step.specs.Starting.{start_of}
use Rattle.region_step.specs.declared.note.Note.{Note}
use Rattle.flow_model.specs.declared.row.Row.{Row}

-- the rows of region r at step t
unfoldable pub grid_rows : Network → ChartLists → StartLists → (r t : ℕ) → List Row
grid_rows net chart start r t = map (grid_row net chart.cut start t) (list_at chart.cells r)

-- what is noted of them from the region's start to step t
unfoldable pub grid_trail : Network → ChartLists → StartLists → (every r t : ℕ) → List Note
grid_trail net chart start every r t =
    flat_map (λ s. notes_of (grid_rows net chart start r s)) (recorded net.steps every (slice_index start.steps r) t)

-- region r of a start at step t
unfoldable pub grid_state : Network → ChartLists → StartLists → (every r t : ℕ) → RegionState
grid_state net chart start every r t = record {
  number = r;
  started = slice_index start.steps r;
  every = every;
  step = t;
  rows = grid_rows net chart start r t;
  before = map (grid_before net chart.cut start t) (list_at chart.cells r);
  trail = grid_trail net chart start every r t;
  put = replicate (length (list_at chart.halo r)) None;
}

-- a region for whose halo it was put what each cell holds
abbrev pub with_halo : ChartLists → (ℕ → ℕ) → RegionState → RegionState
with_halo chart n region = record region { put = map (λ i. Some (n i)) (halo_cells chart region.number) }

-- the rows stay in bounds: no road ever holds more than its room
abbrev pub StayInBounds : Network → (cut : List ℕ) → StartLists → Type 0
StayInBounds net cut start =
    (t i : ℕ) → i < length net.cells → start_of start cut i ≤ t → t ≤ net.steps → IsRowInBounds net t i (grid_row net cut start t i)

-- the rows are those of the recurrences taken one step of the whole network at a time
abbrev pub AreTheRecurrences : Network → (cut : List ℕ) → StartLists → Type 0
AreTheRecurrences net cut start =
    (t i : ℕ) → i < length net.cells → start_of start cut i ≤ t → grid_row net cut start t i ≡ row_at (state_at net t) i

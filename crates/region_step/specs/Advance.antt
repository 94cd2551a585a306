-- One step of a region, by its own rows and by what was put for its halo.
use Rattle.std.specs.Prelude.{◌≡◌, ℕ, ◌+◌, ◌<◌, ◌==◌, eqb, List, [], ◌++◌, Option, Some, None, length, map, replicate, slice_index, slice_index_or, unwrap_or, if◌then◌else◌}
use Rattle.std.specs.List.{list_any, position_or_len}
use Rattle.network_file.specs.Network.{Network}
use Rattle.flow_model.specs.Bounds.{IsHeldInBounds, IsRowInBounds}
use Rattle.flow_model.specs.State.{occupancy, row_at}
use Rattle.flow_model.specs.Stepping.{rows_after}
use Rattle.flow_model.specs.declared.row.Row.{Row}
use Rattle.region_cut.specs.Chart.{ChartLists, list_at}
use Rattle.region_step.specs.Opened.{halo_cells}
use Rattle.region_step.specs.Recording.{is_recorded}
use Rattle.region_step.specs.Noting.{notes_of}
use Rattle.region_step.specs.Region.{RegionState}

-- what each cell that a region knows holds: its own by their rows, those of its halo by what was put there
unfoldable pub known : (cells halo : List ℕ) → List Row → (put : List (Option ℕ)) → (i : ℕ) → ℕ
known cells halo rows put i =
    if list_any (eqb i) cells then occupancy rows (position_or_len (λ j. j == i) cells)
    else unwrap_or (slice_index_or put (position_or_len (λ j. j == i) halo) None) 0

-- the rows of a region after its step
abbrev pub next_rows_of : Network → ChartLists → RegionState → List Row
next_rows_of net chart region =
    let cells = list_at chart.cells region.number in
    rows_after net region.step (known cells (halo_cells chart region.number) region.rows region.put) cells region.rows

-- the region a step on
unfoldable pub advanced : Network → ChartLists → RegionState → RegionState
advanced net chart region =
    let step = region.step + 1 in
    let rows = next_rows_of net chart region in
    record region {
      step = step;
      rows = rows;
      before = map (λ row. row.n) region.rows;
      trail = region.trail ++ (if is_recorded net.steps region.every step then notes_of rows else []);
      put = replicate (length region.put) None;
    }

-- its rows are in bounds at its step
pub record HasRowsInBounds (net : Network) (chart : ChartLists) (region : RegionState) : Type 0 where
  pub each : (p : ℕ) → p < length (list_at chart.cells region.number) →
      IsRowInBounds net region.step (slice_index (list_at chart.cells region.number) p) (row_at region.rows p)

-- for each place of its halo an occupancy was put that is in bounds at its step
pub record HasHaloPut (net : Network) (chart : ChartLists) (region : RegionState) : Type 0 where
  pub each : (j : ℕ) → j < length (halo_cells chart region.number) →
      (n : ℕ) × (slice_index_or region.put j None ≡ Some n) × IsHeldInBounds net region.step (slice_index (halo_cells chart region.number) j) n

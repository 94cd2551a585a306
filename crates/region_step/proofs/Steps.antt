-- What the step of a start's region asks, and what the region tells others.
use Rattle.std.specs.Prelude.{Option, Some, None, map, slice_index}
use Rattle.std.proofs.Common.{◌≡◌, ℕ, ◌<◌, ◌≤◌, ◌+◌, List, length, sym, ap, ◌∙◌, arith}
use Rattle.std.proofs.lemmas.List.{get_or-map}
use Rattle.std.proofs.lemmas.List.Elements.{Contains-get_or}
use Rattle.network_file.specs.Network.{Network}
use Rattle.network_file.specs.Sound.{IsNetwork}
use Rattle.flow_model.specs.Rows.{empty_row}
use Rattle.flow_model.specs.State.{occupancy, row_at}
use Rattle.region_cut.specs.Chart.{ChartLists, chart_of, list_at}
use Rattle.region_cut.specs.Cuttings.{region_count}
use Rattle.region_step.specs.Advance.{HasHaloPut, HasRowsInBounds}
use Rattle.region_step.specs.Grid.{grid_held, grid_row}
use Rattle.region_step.specs.Laws.{grid_rows, grid_state, with_halo}
use Rattle.region_step.specs.Opened.{halo_cells}
use Rattle.region_step.specs.Start.{StartLists, zero_start}
use Rattle.region_step.specs.Starting.{Fits, start_of}
use Rattle.region_step.proofs.Grids.{grid_held-started, held_in_bounds, stay_in_bounds}
use Rattle.region_step.proofs.Ground.{ground}
use Rattle.region_step.proofs.StartLaws.{zeros}

-- its rows are in bounds, whatever is put for its halo
pub grid_state-in_bounds : (net : Network) (chart : ChartLists) (start : StartLists) (every r t : ℕ) (put : List (Option ℕ)) → IsNetwork net → chart ≡ chart_of net chart.cut → r < region_count chart.cut →
    Fits net chart.cut start → slice_index start.steps r ≤ t → t ≤ net.steps → HasRowsInBounds net chart (record (grid_state net chart start every r t) { put = put })
unfolding grid_state grid_rows
grid_state-in_bounds net chart start every r t put sound is within fits started in_time =
    let here = ground net chart.cut chart r sound is within in
    record {
      each = λ p inside.
          let cells : List ℕ = list_at chart.cells r in
          let i : ℕ = slice_index cells p in
          let own = here.own i (Contains-get_or cells p 0 inside) in
          let row : row_at (map (grid_row net chart.cut start t) cells) p ≡ grid_row net chart.cut start t i = get_or-map (grid_row net chart.cut start t) cells p 0 empty_row inside in
          rw row (stay_in_bounds net chart.cut start sound fits t i own.0 (omega (arith, started, ap (slice_index start.steps) own.1)) in_time);
    }

-- for its halo occupancies in bounds are put, where the regions around it start no later than one step ahead
pub halo-in_bounds : (net : Network) (chart : ChartLists) (start : StartLists) (every r t : ℕ) → IsNetwork net → chart ≡ chart_of net chart.cut → r < region_count chart.cut →
    Fits net chart.cut start → ((i : ℕ) → start_of start chart.cut i ≤ t + 1) → t ≤ net.steps →
    HasHaloPut net chart (with_halo chart (grid_held net chart.cut start t) (grid_state net chart start every r t))
unfolding grid_state
halo-in_bounds net chart start every r t sound is within fits near in_time =
    let here = ground net chart.cut chart r sound is within in
    record {
      each = λ j inside.
          let halo : List ℕ = halo_cells chart r in
          let i : ℕ = slice_index halo j in
          let met = here.met i (Contains-get_or halo j 0 inside) in (
            grid_held net chart.cut start t i,
            get_or-map (λ h. Some (grid_held net chart.cut start t h)) halo j 0 None inside,
            held_in_bounds net chart.cut start t i sound fits met.0 (near i) in_time,
          );
    }

-- what its cells hold at its step, and held a step before
pub occupancy-grid : (net : Network) (chart : ChartLists) (start : StartLists) (every r t p : ℕ) → IsNetwork net → chart ≡ chart_of net chart.cut → r < region_count chart.cut →
    slice_index start.steps r ≤ t → p < length (list_at chart.cells r) →
    occupancy (grid_state net chart start every r t).rows p ≡ grid_held net chart.cut start t (slice_index (list_at chart.cells r) p)
unfolding grid_state grid_rows
occupancy-grid net chart start every r t p sound is within started inside =
    let here = ground net chart.cut chart r sound is within in
    let cells : List ℕ = list_at chart.cells r in
    let i : ℕ = slice_index cells p in
    let own = here.own i (Contains-get_or cells p 0 inside) in
    ap (λ row. row.n) (get_or-map (grid_row net chart.cut start t) cells p 0 empty_row inside) ∙
    sym (grid_held-started net chart.cut start t i (omega (arith, started, ap (slice_index start.steps) own.1)))

pub row-grid : (net : Network) (chart : ChartLists) (start : StartLists) (every r t p : ℕ) → p < length (list_at chart.cells r) →
    row_at (grid_state net chart start every r t).rows p ≡ grid_row net chart.cut start t (slice_index (list_at chart.cells r) p)
unfolding grid_state grid_rows
row-grid net chart start every r t p inside = get_or-map (grid_row net chart.cut start t) (list_at chart.cells r) p 0 empty_row inside

-- every region of the zero start starts at step 0
pub zero_start-at : (net : Network) (cut : List ℕ) (q : ℕ) → slice_index (zero_start net cut).steps q ≡ 0
zero_start-at net cut q = zeros (region_count cut) q

-- The rows of all cells: one for each, in bounds at each step.
use Rattle.std.specs.Prelude.{map, slice_get}
use Rattle.std.specs.Prelude.{Some}
use Rattle.std.specs.Option.{option_map}
use Rattle.std.proofs.lemmas.Option.{slice_get_within, get_or_from_slice_get, slice_get-map}
use Rattle.std.proofs.Common.{◌≡◌, ℕ, zero, suc, add-one, ◌+◌, ◌<◌, ◌≤◌, List, length, get_or, arith, refl, sym, ap, ◌∙◌}
use Rattle.std.proofs.lemmas.List.{length-map}
use Rattle.std.proofs.lemmas.List.Sums.{get_or-le-sum_by}
use Rattle.step_plan.specs.Total.{demand_from}
use Rattle.step_plan.proofs.Laws.{demand_from-le-total_demand}
use Rattle.network_file.specs.Network.{Network}
use Rattle.network_file.specs.Sound.{IsNetwork, IsSoundCell}
use Rattle.fixed_flow.specs.Limits.{most_parts}
use Rattle.network_file.specs.declared.cell.Cell.{Cell}
use Rattle.flow_model.specs.Flows.{inflow, outflow}
use Rattle.flow_model.specs.Moves.{begun_row, with_connectors}
use Rattle.flow_model.specs.Rows.{empty_row, next_row}
use Rattle.flow_model.specs.State.{row_at, occupancy, next_rows, state_at}
use Rattle.flow_model.specs.Bounds.{IsRowInBounds, AreInBounds, KeepsRooms}
use Rattle.flow_model.specs.declared.row.Row.{Row}
use Rattle.flow_model.proofs.CellKinds.{cell_at, All-at, first-none, road_at-there}
use Rattle.flow_model.proofs.FirstConnectors.{inflow-all, outflow-all}
use Rattle.flow_model.proofs.Flows.{inflow-gate}
use Rattle.flow_model.proofs.CellLimits.{first-within}
use Rattle.flow_model.proofs.Bounds.{changes, moved_row-in_bounds}
use Rattle.flow_model.proofs.Moves.{length-rows_moved, next_rows-moved, next_rows-with_connectors, row_at-rows_moved, rows_moved-from_each, rows_moved-same}

-- the row of a cell at step 0
abbrev pub first_row : Cell → Row
first_row cell = record empty_row { n = cell.first }

-- one row for each cell

pub length-next_rows : (net : Network) (t : ℕ) (rows : List Row) → length (next_rows net t rows) ≡ length net.cells
length-next_rows net t rows =
    ap length (next_rows-moved net t rows) ∙ length-rows_moved net rows (inflow net t (occupancy rows)) (outflow net t (occupancy rows))

pub row_at-next_rows : (net : Network) (t i : ℕ) (rows : List Row) → i < length net.cells →
    row_at (next_rows net t rows) i ≡ next_row net t (occupancy rows) i (row_at rows i)
unfolding next_row
row_at-next_rows net t i rows has =
    ap (λ all. row_at all i) (next_rows-moved net t rows) ∙
    row_at-rows_moved net rows (inflow net t (occupancy rows)) (outflow net t (occupancy rows)) i has

-- the rows before all connectors
pub begun-with_connectors : (net : Network) (t : ℕ) (rows now : List Row) → length now ≡ length net.cells →
    ((i : ℕ) → i < length net.cells → row_at now i ≡ begun_row net t i (row_at rows i)) → now ≡ next_rows (with_connectors net 0) t rows
unfolding inflow outflow
begun-with_connectors net t rows now long each =
    rows_moved-from_each net rows now (inflow (with_connectors net 0) t (occupancy rows)) (outflow (with_connectors net 0) t (occupancy rows)) long each ∙
    sym (next_rows-with_connectors net t 0 rows)

-- after all connectors the step is done
pub next_rows-all : (net : Network) (t k : ℕ) (rows now : List Row) → length net.connectors ≤ k →
    now ≡ next_rows (with_connectors net k) t rows → now ≡ next_rows net t rows
next_rows-all net t k rows now past is =
    let n : ℕ → ℕ = occupancy rows in
    is ∙ next_rows-with_connectors net t k rows ∙
    rows_moved-same net rows (inflow (with_connectors net k) t n) (outflow (with_connectors net k) t n) (inflow net t n) (outflow net t n)
    (λ i. inflow-all net t n i k past) (λ i. outflow-all net t n i k past) ∙
    sym (next_rows-moved net t rows)

-- the recurrence
pub state_at-next : (net : Network) (t : ℕ) → state_at net (t + 1) ≡ next_rows net t (state_at net t)
unfolding state_at
state_at-next net t = rw add-one refl

pub length-state_at : (net : Network) (t : ℕ) → length (state_at net t) ≡ length net.cells
unfolding state_at
length-state_at net zero = length-map net.cells first_row
length-state_at net (suc t) = length-next_rows net t (state_at net t)

-- the row of a cell, at step 0 and after each step
pub row_at-state_at-zero : (net : Network) (i : ℕ) (cell : Cell) → slice_get net.cells i ≡ Some cell →
    row_at (state_at net 0) i ≡ first_row cell
unfolding state_at
row_at-state_at-zero net i cell found =
    get_or_from_slice_get (map first_row net.cells) i (first_row cell) empty_row
    (slice_get-map first_row net.cells i ∙ ap (λ o. option_map first_row o) found)

pub row_at-state_at-next : (net : Network) (t i : ℕ) → i < length net.cells →
    row_at (state_at net (t + 1)) i ≡ next_row net t (occupancy (state_at net t)) i (row_at (state_at net t) i)
row_at-state_at-next net t i has =
    ap (λ rows. row_at rows i) (state_at-next net t) ∙ row_at-next_rows net t i (state_at net t) has

-- the bounds

pub next_row-in_bounds : (net : Network) (t i : ℕ) (n : ℕ → ℕ) (row : Row) → IsNetwork net → t < net.steps →
    i < length net.cells → IsRowInBounds net t i row → n i ≡ row.n → IsRowInBounds net (t + 1) i (next_row net t n i row)
unfolding next_row
next_row-in_bounds net t i n row sound before has bounds own =
    moved_row-in_bounds net t i row _ _ sound before has bounds
    (rw own at (changes net t i n (inflow net t n i) (outflow net t n i) sound has
    (λ gate. inflow-gate net t i n gate) (omega arith) (omega arith)))

pub next_rows-in_bounds : (net : Network) (t : ℕ) (rows : List Row) → IsNetwork net → t < net.steps → AreInBounds net t rows →
    AreInBounds net (t + 1) (next_rows net t rows)
next_rows-in_bounds net t rows sound before bounds = record {
  one_each = length-next_rows net t rows;
  each = λ i has. rw (row_at-next_rows net t i rows has)
      (next_row-in_bounds net t i (occupancy rows) (row_at rows i) sound before has (bounds.each i has) refl);
}

-- what a cell holds at first, and the demand of its gate, are a part of the load
load-at : (net : Network) (i : ℕ) (cell : Cell) → IsNetwork net → i < length net.cells → get_or net.cells i cell ≡ cell →
    cell.first + demand_from net.plan i 0 net.steps ≤ most_parts
load-at net i cell sound has here = omega (
  arith,
  sound.load,
  rw here at (get_or-le-sum_by (λ c. c.first) net.cells i cell has),
  demand_from-le-total_demand net.plan i net.steps (omega (arith, sound.sound.planned.one_each)),
)

pub first_row-in_bounds : (net : Network) (i : ℕ) (cell : Cell) → IsNetwork net → slice_get net.cells i ≡ Some cell →
    IsRowInBounds net 0 i (first_row cell)
first_row-in_bounds net i cell sound found =
    let has = slice_get_within net.cells i cell found in
    let cell_sound = All-at IsSoundCell net.cells i cell found sound.sound.sound_cells in
    let load = load-at net i cell sound has (get_or_from_slice_get net.cells i cell cell found) in
    record {
      held = record {
        road = λ road. let is_road_here = rw found at road in rw found (first-within cell.kind cell.first cell_sound.kind is_road_here);
        gate = λ gate. load;
        exit = λ exit. let is_exit_here = rw found at exit in omega (arith, first-none cell.kind cell.first cell_sound.kind is_exit_here);
      };
      road_come = λ road. omega arith;
      gate_come = λ gate. omega (arith, load);
      exit_come = λ exit. let is_exit_here = rw found at exit in sym (first-none cell.kind cell.first cell_sound.kind is_exit_here);
      exit_gone = λ exit. refl;
      exit_wait = λ exit. refl;
      gone = omega arith;
      wait = omega arith;
      balance = λ no_exit. rw found refl;
    }

pub first_rows-in_bounds : (net : Network) → IsNetwork net → AreInBounds net 0 (state_at net 0)
unfolding state_at
first_rows-in_bounds net sound = record {
  one_each = length-map net.cells first_row;
  each = λ i has.
      let here = cell_at net.cells i has in
      rw (row_at-state_at-zero net i here.0 here.1) (first_row-in_bounds net i here.0 sound here.1);
}

-- the rows of each step are in bounds: a road never holds more than its room
pub state_at-in_bounds : (net : Network) → IsNetwork net → (t : ℕ) → t ≤ net.steps → AreInBounds net t (state_at net t)
state_at-in_bounds net sound zero within = first_rows-in_bounds net sound
state_at-in_bounds net sound (suc t) within =
    let next = next_rows-in_bounds net t (state_at net t) sound (omega arith) (state_at-in_bounds net sound t (omega arith)) in
    rw (← state_at-next net t, add-one) at next

pub AreInBounds-KeepsRooms : (net : Network) (t : ℕ) (rows : List Row) → AreInBounds net t rows → KeepsRooms net rows
AreInBounds-KeepsRooms net t rows bounds = record {
  each = λ i road. (bounds.each i (road_at-there net.cells i road)).held.road road;
}

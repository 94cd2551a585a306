-- The row of a cell by its state.
use Rattle.std.specs.Prelude.{◌≡◌, ℕ, ◌+◌, ◌-◌, ◌<◌, ◌≤◌, ◌^◌, false, List, length, map, slice_index_or, if◌then◌else◌}
use Rattle.std.specs.List.{range_with_len}
use Rattle.network_file.specs.Cells.{is_exit_at}
use Rattle.network_file.specs.Network.{Network}
use Rattle.flow_model.specs.Bounds.{first_at}
use Rattle.flow_model.specs.declared.row.Row.{Row}
use Rattle.cell_sweep.specs.CellStates.{cell_state_at}
use Rattle.cell_sweep.specs.declared.cell_state.CellState.{CellState}
use Rattle.region_body.specs.declared.cell_constants.CellConstants.{CellConstants}

-- what came is what it holds and what went, less what it held at first; what waited is what it held in all the steps, less what went.
-- An exit keeps all that came, and nothing waits in it.
abbrev pub row_of : CellConstants → CellState → Row
row_of constants state = record {
  n = state.n;
  come = if constants.is_exit then state.n else state.n + state.gone - constants.first;
  gone = state.gone;
  wait = if constants.is_exit then 0 else state.held - state.gone;
}

abbrev pub constants_at : List CellConstants → (p : ℕ) → CellConstants
constants_at constants p = slice_index_or constants p (record { first = 0; is_exit = false })

-- the rows of cells with these constants in these states
unfoldable pub rows_of : List CellConstants → List CellState → List Row
rows_of constants states = map (λ p. row_of (constants_at constants p) (cell_state_at states p)) (range_with_len 0 (length constants))

-- the constants are those of cell i, and no sum of the state runs below 0
pub record IsOf (net : Network) (i : ℕ) (constants : CellConstants) (state : CellState) : Type 0 where
  pub first : constants.first ≡ first_at net.cells i
  pub exit : constants.is_exit ≡ is_exit_at net.cells i
  pub began : constants.is_exit ≡ false → constants.first ≤ state.n + state.gone
  pub sums : constants.is_exit ≡ false → state.gone ≤ state.held

-- no sum of the state runs below 0 or too large, and it has room for what it holds
pub record IsSettled (constants : CellConstants) (state : CellState) : Type 0 where
  pub began : constants.is_exit ≡ false → constants.first ≤ state.n + state.gone
  pub sums : constants.is_exit ≡ false → state.gone ≤ state.held
  pub fits : state.n + state.gone < 2 ^ 64
  pub room : state.n ≤ state.space.storage

-- so is each, with an occupancy of a step before for each
pub record AreSettled (constants : List CellConstants) (states : List CellState) (before : List ℕ) : Type 0 where
  pub one_each : length states ≡ length constants
  pub before_each : length before ≡ length constants
  pub each : (p : ℕ) → p < length constants → IsSettled (constants_at constants p) (cell_state_at states p)

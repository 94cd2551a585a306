-- The states of cells side by side, and a step of them.
use Rattle.std.specs.Prelude.{ℕ, zero, suc, ◌+◌, ◌-◌, ◌%◌, ◌^◌, ◌<◌, ◌≤◌, List, length, min, slice_index_or}
use Rattle.connector_flow.specs.Space.{let_in}
use Rattle.cell_sweep.specs.declared.cell_state.CellState.{CellState}

-- the state of a cell that holds nothing and lets nothing in
abbrev pub no_state : CellState
no_state = record { n = 0; gone = 0; held = 0; most = 0; space = record { storage = 0; factor = 0 } }

abbrev pub cell_state_at : List CellState → (p : ℕ) → CellState
cell_state_at states p = slice_index_or states p no_state

-- what the link from a cell to the next one carries, by what the first can send and the second can receive
abbrev pub carried : (state next : CellState) → ℕ
carried state next = min (min state.most state.n) (let_in next.space next.n)

-- what the link out of place p carries; none leaves the last
unfoldable pub link_out : List CellState → (p : ℕ) → ℕ
link_out states p = carried (cell_state_at states p) (cell_state_at states (p + 1))

-- what the link into place p carries; none enters the first
unfoldable pub link_in : List CellState → (p : ℕ) → ℕ
link_in states zero = 0
link_in states (suc p) = link_out states p

-- a state after a step in which so much enters its cell and so much leaves
abbrev pub moved : CellState → (enters leaves : ℕ) → CellState
moved state enters leaves = record state {
  n = state.n + enters - leaves;
  gone = state.gone + leaves;
  held = (state.held + state.n) % 2 ^ 64;
}

-- a state after so much left its cell, or entered it
abbrev pub with_left : CellState → (parts : ℕ) → CellState
with_left state parts = record state { n = state.n - parts; gone = state.gone + parts }

abbrev pub with_entered : CellState → (parts : ℕ) → CellState
with_entered state parts = record state { n = state.n + parts }

-- the p-th state after a step of the links between neighbours, in which they send as these do
abbrev pub swept : (states sending : List CellState) → (p : ℕ) → CellState
swept states sending p = moved (cell_state_at states p) (link_in sending p) (link_out sending p)

-- each cell has room for what it holds, and all of that may go
pub record AreSound (states : List CellState) : Type 0 where
  pub room : (p : ℕ) → p < length states → (cell_state_at states p).n ≤ (cell_state_at states p).space.storage
  pub gone : (p : ℕ) → p < length states → (cell_state_at states p).gone + (cell_state_at states p).n < 2 ^ 64

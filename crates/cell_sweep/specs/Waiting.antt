-- Cells that wait: nothing leaves them and nothing enters.
use Rattle.std.specs.Prelude.{ℕ, zero, suc, ◌+◌, ◌%◌, ◌^◌}
use Rattle.cell_sweep.specs.declared.cell_state.CellState.{CellState}

-- a state after so many steps of waiting: what the cell holds counts once for each
unfoldable pub waited : (steps : ℕ) → CellState → CellState
waited zero state = state
waited (suc steps) state =
    let before = waited steps state in record before { held = (before.held + before.n) % 2 ^ 64 }

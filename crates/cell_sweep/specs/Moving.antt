-- Links between neighbours that carry something, and links that don't.
use Rattle.std.specs.Prelude.{◌≡◌, ℕ, ◌<◌, ◌≤◌, List, length}
use Rattle.cell_sweep.specs.CellStates.{link_out}
use Rattle.cell_sweep.specs.Speeds.{at_speeds}
use Rattle.cell_sweep.specs.declared.cell_state.CellState.{CellState}

-- the link out of the place carries something at these speeds
pub record MovesAt (states : List CellState) (speeds : List (ℕ × ℕ)) (p : ℕ) : Type 0 where
  pub there : p < length states
  pub some : 1 ≤ link_out (at_speeds states speeds) p

-- no link does
abbrev pub MoveNothing : List CellState → (speeds : List (ℕ × ℕ)) → Type 0
MoveNothing states speeds = (p : ℕ) → p < length states → link_out (at_speeds states speeds) p ≡ 0

-- none from one place on, before another
abbrev pub MoveNothingIn : List CellState → (speeds : List (ℕ × ℕ)) → (from to : ℕ) → Type 0
MoveNothingIn states speeds from to = (p : ℕ) → from ≤ p → p < to → link_out (at_speeds states speeds) p ≡ 0

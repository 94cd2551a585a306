-- A sweep of states on its way from the first to the last.
use Rattle.std.specs.Prelude.{◌≡◌, ◌≢◌, Bool, false, ℕ, ◌+◌, ◌<◌, ◌≤◌, ◌^◌, List, length, slice_index}
use Rattle.cell_sweep.specs.CellStates.{AreSound, link_in, cell_state_at, swept}
use Rattle.cell_sweep.specs.Speeds.{at_speeds, ratio_at}
use Rattle.cell_sweep.specs.declared.cell_state.CellState.{CellState}

-- it has come to place p, which so much enters: all states before it are swept and noted, and the later ones are as at first
pub record IsSweptTo (first : List CellState) (speeds : List (ℕ × ℕ)) (p : ℕ) (states : List CellState) (before : List ℕ) (enters : ℕ) : Type 0 where
  pub sound : AreSound first
  pub long : length states ≡ length first
  pub carried : enters ≡ link_in (at_speeds first speeds) p
  pub fits : (cell_state_at states p).n + enters < 2 ^ 64
  pub done : (k : ℕ) → k < p → cell_state_at states k ≡ swept first (at_speeds first speeds) k
  pub rest : (k : ℕ) → p ≤ k → cell_state_at states k ≡ cell_state_at first k
  pub noted : (k : ℕ) → k < p → slice_index before k ≡ (cell_state_at first k).n

-- the speed at these places is their roads' own
abbrev pub IsFree : (speeds : List (ℕ × ℕ)) → (from to : ℕ) → Type 0
IsFree speeds from to = (p : ℕ) → from ≤ p → p < to → ratio_at speeds p ≡ (1, 1)

-- these cells hold so little that the factors of speeds will do: all of them in a zone that is all slow, else those whose speed isn't
-- the road's own
abbrev pub AreFew : List CellState → (speeds : List (ℕ × ℕ)) → (all_slow : Bool) → (from to : ℕ) → Type 0
AreFew states speeds all_slow from to = (p : ℕ) → from ≤ p → p < to → (all_slow ≡ false → ratio_at speeds p ≢ (1, 1)) → (cell_state_at states p).n < 2 ^ 52

-- The speeds in cells side by side, by their places.
use Rattle.std.specs.Prelude.{◌≡◌, ◌≢◌, ℕ, ◌-◌, ◌/◌, ◌^◌, ◌<◌, ◌≤◌, Bool, true, false, List, length, map, min, slice_index, slice_index_or}
use Rattle.std.specs.List.{range_with_len}
use Rattle.step_plan.specs.Speeds.{arriving}
use Rattle.step_plan.specs.SpeedBounds.{has_speeds}
use Rattle.network_file.specs.Network.{Network}
use Rattle.cell_sweep.specs.CellStates.{cell_state_at}
use Rattle.cell_sweep.specs.SpeedZones.{AreZones}
use Rattle.cell_sweep.specs.declared.cell_state.CellState.{CellState}
use Rattle.cell_sweep.specs.declared.speed_zone.SpeedZone.{SpeedZone}

-- the speed at place p as a ratio to the road's, 1/1 behind the last of a list
abbrev pub ratio_at : (speeds : List (ℕ × ℕ)) → (p : ℕ) → ℕ × ℕ
ratio_at speeds p = slice_index_or speeds p (1, 1)

-- a state out of which goes at most what comes to the end of its cell at this speed
abbrev pub slowed_state : CellState → (speed : ℕ × ℕ) → CellState
slowed_state state speed = record state { most = min state.most (arriving speed state.n) }

-- these states at these speeds
unfoldable pub at_speeds : List CellState → (speeds : List (ℕ × ℕ)) → List CellState
at_speeds states speeds = map (λ p. slowed_state (cell_state_at states p) (ratio_at speeds p)) (range_with_len 0 (length states))

-- states that can be swept by these zones, which lie where places are slow, in the whole fours before the last place: a place
-- that isn't slow has its road's own speed, one that is slow holds so little that a factor will do for its speed, and a list of
-- speeds that isn't empty has one for each place
pub record CanSweep (states : List CellState) (speeds : List (ℕ × ℕ)) (zones : List SpeedZone) : Type 0 where
  pub slow : ℕ → Bool
  pub laid : AreZones slow ((length states - 1) / 4) zones
  pub free : (p : ℕ) → p < length states → slow p ≡ false → ratio_at speeds p ≡ (1, 1)
  pub known : length speeds ≢ 0 → length states ≤ length speeds
  pub few : (p : ℕ) → p < length states → slow p ≡ true → (cell_state_at states p).n < 2 ^ 52

-- whether the p-th of these cells has speed records, as a road alone may
abbrev pub is_slow : Network → (cells : List ℕ) → (p : ℕ) → Bool
is_slow net cells p = has_speeds net.plan (slice_index cells p)

-- When a network lets through no less than another.
use Rattle.std.specs.Prelude.{◌≡◌, ℕ, ◌*◌, ◌<◌, ◌≤◌, length, slice_get, Some, true, ⊤}
use Rattle.step_plan.specs.Capacity.{capacity_at}
use Rattle.step_plan.specs.Green.{green_at}
use Rattle.step_plan.specs.Speeds.{speed_at}
use Rattle.network_file.specs.Network.{Network}
use Rattle.network_file.specs.declared.cell.Cell.{Cell}
use Rattle.network_file.specs.declared.cell.Kind.{Kind}
use Rattle.network_file.specs.declared.cell.Kind.TheVariants.{Road, Gate, Exit}

-- both are roads, of which the second has no less room and no lower ratio A/B, or both are gates, or both exits
abbrev pub IsRoomierKind : (one two : Kind) → Type 0
IsRoomierKind (Road room num den) (Road room_too num_too den_too) = (room ≤ room_too) × (num * den_too ≤ num_too * den)
IsRoomierKind Gate Gate = ⊤
IsRoomierKind Exit Exit = ⊤
IsRoomierKind one two = ⊥

-- the second cell has no less room and no lower ratio, and else they are the same but for their names
pub record IsRoomier (one two : Cell) : Type 0 where
  pub kind : IsRoomierKind one.kind two.kind
  pub first : two.first ≡ one.first

-- the second network has the same links, no fewer steps, rooms, ratios, capacities and speeds no less, and green wherever the
-- first has it; nothing is said of the demands
pub record IsEased (one two : Network) : Type 0 where
  pub steps : one.steps ≤ two.steps
  pub connectors : two.connectors ≡ one.connectors
  pub one_each : length two.cells ≡ length one.cells
  pub cells : (i : ℕ) (a b : Cell) → slice_get one.cells i ≡ Some a → slice_get two.cells i ≡ Some b → IsRoomier a b
  pub capacity : (i t : ℕ) → i < length one.cells → t < one.steps → capacity_at one.plan i t ≤ capacity_at two.plan i t
  pub speed : (i t : ℕ) → i < length one.cells → t < one.steps →
      (speed_at one.plan i t).0 * (speed_at two.plan i t).1 ≤ (speed_at two.plan i t).0 * (speed_at one.plan i t).1
  pub green : (i t : ℕ) → i < length one.cells → t < one.steps → green_at one.plan i t ≡ true → green_at two.plan i t ≡ true

-- each is eased against the other, so that steps, rooms, ratios, capacities, speeds and greens are the same
pub record AreAlike (one two : Network) : Type 0 where
  pub there : IsEased one two
  pub back : IsEased two one

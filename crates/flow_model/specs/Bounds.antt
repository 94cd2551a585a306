-- The bounds that rows keep at each step.
use Rattle.std.specs.Prelude.{◌≡◌, ℕ, ◌+◌, ◌*◌, ◌<◌, ◌≤◌, List, true, false, length, slice_get, slice_index}
use Rattle.std.specs.Option.{option_map_or}
use Rattle.step_plan.specs.Total.{demand_from}
use Rattle.network_file.specs.Cells.{is_exit_at, is_gate_at, is_road_at}
use Rattle.network_file.specs.Network.{Network}
use Rattle.network_file.specs.declared.cell.Cell.{Cell}
use Rattle.fixed_flow.specs.Limits.{most_parts}
use Rattle.network_file.specs.Limits.{most_capacity}
use Rattle.flow_model.specs.Limits.{room_at}
use Rattle.flow_model.specs.State.{row_at, occupancy}
use Rattle.flow_model.specs.declared.row.Row.{Row}

-- the room of the cell of this number, in parts
abbrev pub room_parts_at : List Cell → ℕ → ℕ
room_parts_at cells i = option_map_or (λ room. room.most) (room_at cells i) 0

-- what the cell of this number holds at step 0
abbrev pub first_at : List Cell → ℕ → ℕ
first_at cells i = option_map_or (λ cell. cell.first) (slice_get cells i) 0

-- an occupancy of cell i that is in bounds at step t
pub record IsHeldInBounds (net : Network) (t i n : ℕ) : Type 0 where
  -- a road never holds more than its room
  pub road : is_road_at net.cells i ≡ true → n ≤ room_parts_at net.cells i
  -- what a gate holds and its demand still to come
  pub gate : is_gate_at net.cells i ≡ true → n + demand_from net.plan i t net.steps ≤ most_parts
  pub exit : is_exit_at net.cells i ≡ true → n ≤ t * most_capacity

-- occupancies of these cells that are in bounds at step t
pub record AreHeldInBounds (net : Network) (t : ℕ) (cells n : List ℕ) : Type 0 where
  pub each : (j : ℕ) → j < length cells → IsHeldInBounds net t (slice_index cells j) (slice_index n j)

-- a row of cell i that is in bounds at step t
pub record IsRowInBounds (net : Network) (t i : ℕ) (row : Row) : Type 0 where
  pub held : IsHeldInBounds net t i row.n
  pub road_come : is_road_at net.cells i ≡ true → row.come ≤ t * most_capacity
  pub gate_come : is_gate_at net.cells i ≡ true → row.come + demand_from net.plan i t net.steps ≤ most_parts
  pub exit_come : is_exit_at net.cells i ≡ true → row.come ≡ row.n
  pub exit_gone : is_exit_at net.cells i ≡ true → row.gone ≡ 0
  pub exit_wait : is_exit_at net.cells i ≡ true → row.wait ≡ 0
  pub gone : row.gone ≤ t * most_capacity
  pub wait : row.wait ≤ t * most_parts
  -- a road or a gate holds what it held at first and what came, less what went
  pub balance : is_exit_at net.cells i ≡ false → row.n + row.gone ≡ first_at net.cells i + row.come

-- one row for each cell, each in bounds at step t
pub record AreInBounds (net : Network) (t : ℕ) (rows : List Row) : Type 0 where
  pub one_each : length rows ≡ length net.cells
  pub each : (i : ℕ) → i < length net.cells → IsRowInBounds net t i (row_at rows i)

-- no road holds more than its room
pub record KeepsRooms (net : Network) (rows : List Row) : Type 0 where
  pub each : (i : ℕ) → is_road_at net.cells i ≡ true → occupancy rows i ≤ room_parts_at net.cells i

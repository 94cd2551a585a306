-- What a cell can send and receive in a step.
use Rattle.std.specs.Prelude.{ℕ, List, Option, Some, None, option_and_then, slice_get}
use Rattle.ordinary_link.specs.Flows.{receiving_flow, sending_flow}
use Rattle.ordinary_link.specs.declared.space.Room.{Room}
use Rattle.step_plan.specs.Capacity.{capacity_at}
use Rattle.step_plan.specs.Green.{green_at}
use Rattle.step_plan.specs.Speeds.{arriving, speed_at}
use Rattle.network_file.specs.Network.{Network}
use Rattle.network_file.specs.declared.cell.Cell.{Cell}
use Rattle.network_file.specs.declared.cell.Kind.{Kind}
use Rattle.network_file.specs.declared.cell.Kind.TheVariants.{Road, Gate, Exit}

-- the room of a cell of this kind: a road alone has one
abbrev pub room_of : Kind → Option Room
room_of (Road room num den) = Some (record { most = room; num = num; den = den })
room_of Gate = None
room_of Exit = None

-- the room of the cell of this number
abbrev pub room_at : List Cell → ℕ → Option Room
room_at cells i = option_and_then (λ cell. room_of cell.kind) (slice_get cells i)

-- S(i,t,n): what cell i can send at step t where it holds n parts: those that reach its end at the speed of the step, or as many
-- of them as can pass; nothing at red
unfoldable pub sending_at : Network → (t i n : ℕ) → ℕ
sending_at net t i n = sending_flow (arriving (speed_at net.plan i t) n) (capacity_at net.plan i t) (green_at net.plan i t)

-- R(i,t,n): what cell i can receive at step t where it holds n parts
unfoldable pub receiving_at : Network → (t i n : ℕ) → ℕ
receiving_at net t i n = receiving_flow n (capacity_at net.plan i t) (room_at net.cells i)

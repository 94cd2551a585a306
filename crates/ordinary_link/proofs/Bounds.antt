-- What a cell sends or receives stays within what it holds, its capacity and its room.
use Rattle.std.specs.Prelude.{Option, Some, None}
use Rattle.std.proofs.Common.{ℕ, ◌≤◌, ◌+◌, ◌-◌, ◌*◌, ◌/◌, Bool, true, false, arith}
use Rattle.ordinary_link.specs.declared.space.Room.{Room}
use Rattle.ordinary_link.specs.Flows.{sending_flow, receiving_flow}
use Rattle.ordinary_link.specs.Rooms.{IsRoomHolding}

pub sending_flow-le-held : (n q : ℕ) (green : Bool) → sending_flow n q green ≤ n
sending_flow-le-held n q true = omega arith
sending_flow-le-held n q false = omega arith

pub sending_flow-le-capacity : (n q : ℕ) (green : Bool) → sending_flow n q green ≤ q
sending_flow-le-capacity n q true = omega arith
sending_flow-le-capacity n q false = omega arith

pub receiving_flow-le-capacity : (n q : ℕ) (room : Option Room) → receiving_flow n q room ≤ q
receiving_flow-le-capacity n q None = omega arith
receiving_flow-le-capacity n q (Some room) = omega arith

add-space_flow-le-most : (n : ℕ) (room : Room) → IsRoomHolding n room → n + room.num * (room.most - n) / room.den ≤ room.most
add-space_flow-le-most n room fits = grind arith

pub add-receiving_flow-le-most : (n q : ℕ) (room : Room) → IsRoomHolding n room →
    n + receiving_flow n q (Some room) ≤ room.most
add-receiving_flow-le-most n q room fits = omega (arith, add-space_flow-le-most n room fits)

-- What a cell sends and receives within its most is what it can send and receive.
use Rattle.std.specs.Prelude.{Bool, Option, Some, None, if◌then◌else◌}
use Rattle.std.proofs.Common.{◌≡◌, ℕ, ◌+◌, ◌<◌, ◌≤◌, true, false, min, length, refl, ap, arith}
use Rattle.ordinary_link.specs.Flows.{receiving_flow, sending_flow}
use Rattle.ordinary_link.specs.declared.space.Room.{Room}
use Rattle.step_plan.specs.Capacity.{capacity_at}
use Rattle.step_plan.specs.Green.{green_at}
use Rattle.step_plan.specs.Speeds.{arriving, speed_at}
use Rattle.network_file.specs.Cells.{is_exit, is_gate, is_road}
use Rattle.network_file.specs.Network.{Network}
use Rattle.network_file.specs.Sound.{IsNetwork}
use Rattle.network_file.specs.declared.cell.Kind.{Kind}
use Rattle.network_file.specs.declared.cell.Kind.TheVariants.{Road, Gate, Exit}
use Rattle.network_file.specs.Limits.{most_capacity}
use Rattle.flow_model.specs.Bounds.{IsHeldInBounds}
use Rattle.flow_model.specs.Limits.{receiving_at, room_at, room_of, sending_at}
use Rattle.flow_model.proofs.CellKinds.{cell_at}
use Rattle.flow_model.proofs.CellLimits.{capacity_at-le, most_of}
use Rattle.connector_flow.specs.Space.{HasSpace, IsSpaceOf, boundless, let_in}
use Rattle.connector_flow.specs.declared.space.Space.{Space}
use Rattle.timelines.specs.Cells.{most_by}
use Rattle.connector_flow.specs.Flows.{received}

pub sending-is : (net : Network) (t i n : ℕ) → min (most_by net.plan i true t) (arriving (speed_at net.plan i t) n) ≡ sending_at net t i n
unfolding sending_at most_by
sending-is net t i n = by (green_at net.plan i t)
  where
    by : (green : Bool) → min (if green then capacity_at net.plan i t else 0) (arriving (speed_at net.plan i t) n) ≡
        sending_flow (arriving (speed_at net.plan i t) n) (capacity_at net.plan i t) green
    by true = refl
    by false = omega arith

received-is : (n q : ℕ) (space : Space) (room : Option Room) → IsSpaceOf space room → HasSpace n q room → received q space n ≡ receiving_flow n q room
received-is n q space (Some room) is has = ap (min q) (is n has).1
received-is n q space None is has = let large : q ≤ let_in space n = (is n q has).1 in omega arith

-- a cell has space for what it holds and no more than a step's capacity
pub has-space : (net : Network) (t i n q : ℕ) → IsNetwork net → t ≤ net.steps → i < length net.cells → IsHeldInBounds net t i n → q ≤ most_capacity →
    HasSpace n q (room_at net.cells i)
has-space net t i n q sound in_time has bounds few =
    let here = cell_at net.cells i has in
    let steps = sound.few_steps in
    let road = rw here.1 at bounds.road in
    let gate = rw here.1 at bounds.gate in
    let exit = rw here.1 at bounds.exit in
    rw here.1 (of_kind here.0.kind n q road (λ is. omega (arith, gate is)) (λ is. omega (arith, exit is)))
  where
    of_kind : (kind : Kind) (n q : ℕ) → (is_road kind ≡ true → n ≤ most_of kind) → (is_gate kind ≡ true → n + q ≤ boundless) →
        (is_exit kind ≡ true → n + q ≤ boundless) → HasSpace n q (room_of kind)
    of_kind (Road room num den) n q road gate exit = road refl
    of_kind Gate n q road gate exit = gate refl
    of_kind Exit n q road gate exit = exit refl

pub receiving-is : (net : Network) (t i n : ℕ) (space : Space) → IsNetwork net → t < net.steps → i < length net.cells →
    IsSpaceOf space (room_at net.cells i) → IsHeldInBounds net t i n → received (most_by net.plan i false t) space n ≡ receiving_at net t i n
unfolding receiving_at most_by
receiving-is net t i n space sound before has is bounds =
    let few : capacity_at net.plan i t ≤ most_capacity = capacity_at-le net t i sound has in
    received-is n (capacity_at net.plan i t) space (room_at net.cells i) is
    (has-space net t i n (capacity_at net.plan i t) sound (omega (arith, before)) has bounds few)

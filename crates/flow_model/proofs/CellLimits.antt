-- What a cell can send and receive is within what it holds, its capacity and its room.
use Rattle.std.proofs.Common.{All, ◌≡◌, ℕ, ◌+◌, ◌<◌, ◌≤◌, true, length, arith}
use Rattle.std.specs.Option.{option_map_or}
use Rattle.std.proofs.lemmas.List.Elements.{All-weaker}
use Rattle.ordinary_link.specs.Flows.{receiving_flow}
use Rattle.ordinary_link.proofs.Bounds.{sending_flow-le-held, sending_flow-le-capacity, receiving_flow-le-capacity, add-receiving_flow-le-most}
use Rattle.step_plan.specs.Capacity.{capacity_at}
use Rattle.step_plan.specs.Green.{green_at}
use Rattle.step_plan.specs.Records.{LimitRecord, SpeedRecord, records_at}
use Rattle.step_plan.specs.Sound.{IsSoundSpeed}
use Rattle.step_plan.specs.Speeds.{arriving, speed_at}
use Rattle.step_plan.specs.SpeedBounds.{IsSpeed}
use Rattle.step_plan.specs.Limits.{most_steps}
use Rattle.step_plan.proofs.Laws as plan
use Rattle.network_file.specs.Cells.{is_road, is_road_at}
use Rattle.network_file.specs.Network.{Network}
use Rattle.network_file.specs.Sound.{IsNetwork, IsSoundCell, IsSoundKind}
use Rattle.network_file.specs.Limits.{most_capacity}
use Rattle.network_file.specs.declared.cell.Kind.{Kind}
use Rattle.network_file.specs.declared.cell.Kind.TheVariants.{Road, Gate, Exit}
use Rattle.network_file.proofs.PlanFacts.{all-planned}
use Rattle.flow_model.specs.Limits.{room_of, room_at, sending_at, receiving_at}
use Rattle.flow_model.specs.Bounds.{room_parts_at}
use Rattle.flow_model.proofs.CellKinds.{cell_at, All-at}

-- the speed in a cell at a step is a ratio of at most 1
pub speed_at-sound : (net : Network) (i t : ℕ) → IsNetwork net → IsSpeed (speed_at net.plan i t)
speed_at-sound net i t sound =
    plan.speed_at-all IsSpeed net.plan i t plan.IsSpeed-own
    (all-planned (λ planned. All (λ speed. IsSpeed (speed.num, speed.den)) planned.records.speeds) net sound
    (λ k planned fits. All-weaker (λ (speed : SpeedRecord). (is_road_at net.cells k ≡ true) × (speed.to ≤ most_steps) × IsSoundSpeed speed)
    (λ speed. IsSpeed (speed.num, speed.den)) (λ speed within. within.2.bounds) planned.records.speeds fits.speeds))

pub sending_at-le-held : (net : Network) (t i n : ℕ) → IsNetwork net → sending_at net t i n ≤ n
unfolding sending_at
sending_at-le-held net t i n sound =
    let arrive : ℕ = arriving (speed_at net.plan i t) n in
    omega (
      arith,
      sending_flow-le-held arrive (capacity_at net.plan i t) (green_at net.plan i t),
      plan.arriving-le (speed_at net.plan i t) n (speed_at-sound net i t sound),
    )

pub sending_at-le-capacity : (net : Network) (t i n : ℕ) → sending_at net t i n ≤ capacity_at net.plan i t
unfolding sending_at
sending_at-le-capacity net t i n = sending_flow-le-capacity (arriving (speed_at net.plan i t) n) (capacity_at net.plan i t) (green_at net.plan i t)

pub receiving_at-le-capacity : (net : Network) (t i n : ℕ) → receiving_at net t i n ≤ capacity_at net.plan i t
unfolding receiving_at
receiving_at-le-capacity net t i n = receiving_flow-le-capacity n (capacity_at net.plan i t) (room_at net.cells i)

pub capacity_at-le : (net : Network) (t i : ℕ) → IsNetwork net → i < length net.cells → capacity_at net.plan i t ≤ most_capacity
capacity_at-le net t i sound has =
    let fits = sound.sound.planned.planned i has in
    plan.capacity_at-le net.plan i t most_capacity fits.capacity
    (All-weaker (λ (l : LimitRecord). (l.to ≤ most_steps) × (l.capacity ≤ most_capacity)) (λ l. l.capacity ≤ most_capacity) (λ l both. both.1)
    (records_at net.plan i).limits fits.limits)

-- the most that a cell of this kind may hold, where it is a road
abbrev pub most_of : Kind → ℕ
most_of kind = option_map_or (λ room. room.most) (room_of kind) 0

-- a road starts within its room
pub first-within : (kind : Kind) (first : ℕ) → IsSoundKind kind first → is_road kind ≡ true → first ≤ most_of kind
first-within (Road room num den) first sound road = sound.within
first-within Gate first sound road = cc
first-within Exit first sound road = cc

-- a road receives no more than it has room for
road_receives : (kind : Kind) (n q first : ℕ) → IsSoundKind kind first → is_road kind ≡ true → n ≤ most_of kind →
    n + receiving_flow n q (room_of kind) ≤ most_of kind
road_receives (Road room num den) n q first sound road within =
    add-receiving_flow-le-most n q _ (record { within = within; positive = sound.positive; ratio = sound.ratio; small = sound.small })
road_receives Gate n q first sound road within = cc
road_receives Exit n q first sound road within = cc

-- a road keeps within its room, whatever it receives
pub add-receiving_at-le-most : (net : Network) (t i n : ℕ) → IsNetwork net → i < length net.cells →
    is_road_at net.cells i ≡ true → n ≤ room_parts_at net.cells i → n + receiving_at net t i n ≤ room_parts_at net.cells i
unfolding receiving_at
add-receiving_at-le-most net t i n sound has road within =
    let here = cell_at net.cells i has in
    let cell_sound = All-at IsSoundCell net.cells i here.0 here.1 sound.sound.sound_cells in
    let is_road_here = rw here.1 at road in
    let within_here = rw here.1 at within in
    rw here.1 (road_receives here.0.kind n (capacity_at net.plan i t) here.0.first cell_sound.kind is_road_here within_here)

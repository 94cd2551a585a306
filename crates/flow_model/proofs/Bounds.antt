-- Each step keeps the rows in bounds.
use Rattle.std.proofs.Common.{◌≡◌, inl, inr, ℕ, ◌+◌, ◌*◌, ◌<◌, ◌≤◌, true, false, length, arith}
use Rattle.std.proofs.lemmas.Bool.{cases_Bool}
use Rattle.fixed_flow.specs.Limits.{most_parts}
use Rattle.step_plan.specs.Demand.{demand_at}
use Rattle.step_plan.specs.Limits.{most_steps}
use Rattle.step_plan.proofs.Laws.{demand_from_more}
use Rattle.network_file.specs.Cells.{is_gate_at, is_exit_at, is_road_at}
use Rattle.network_file.specs.Network.{Network}
use Rattle.network_file.specs.Sound.{IsNetwork, IsSoundCell, IsSoundKind}
use Rattle.network_file.specs.Limits.{most_capacity, most_room}
use Rattle.network_file.specs.declared.cell.Kind.{Kind}
use Rattle.network_file.specs.declared.cell.Kind.TheVariants.{Road, Gate, Exit}
use Rattle.flow_model.specs.Flows.{inflow, outflow}
use Rattle.flow_model.specs.Rows.{moved_row}
use Rattle.flow_model.specs.Bounds.{room_parts_at, IsHeldInBounds, IsRowInBounds}
use Rattle.flow_model.specs.declared.row.Row.{Row}
use Rattle.flow_model.proofs.CellKinds.{cell_at, All-at, kinds_at, road_at-alone, exit_at-no_gate}
use Rattle.flow_model.proofs.CellLimits.{most_of, sending_at-le-held, sending_at-le-capacity, receiving_at-le-capacity, capacity_at-le, add-receiving_at-le-most}
use Rattle.flow_model.proofs.Flows.{outflow-le, inflow-le, outflow-exit}

-- what a step may bring to a cell that holds n, and what it may take
pub record IsChange (net : Network) (t i n enters leaves : ℕ) : Type 0 where
  pub held : leaves ≤ n
  pub sent : leaves ≤ most_capacity
  pub exit : is_exit_at net.cells i ≡ true → leaves ≡ 0
  pub demand : is_gate_at net.cells i ≡ true → enters ≡ demand_at net.plan i t
  pub received : is_gate_at net.cells i ≡ false → enters ≤ most_capacity
  pub room : is_road_at net.cells i ≡ true → n ≤ room_parts_at net.cells i → n + enters ≤ room_parts_at net.cells i

-- no more than a whole step brings and takes is such a change
pub changes : (net : Network) (t i : ℕ) (n : ℕ → ℕ) (enters leaves : ℕ) → IsNetwork net → i < length net.cells →
    (is_gate_at net.cells i ≡ true → enters ≡ demand_at net.plan i t) → enters ≤ inflow net t n i → leaves ≤ outflow net t n i →
    IsChange net t i (n i) enters leaves
changes net t i n enters leaves sound has demand brings takes =
    let capacity = capacity_at-le net t i sound has in
    let sent = outflow-le net t i n sound in
    record {
      held = omega (arith, sent, sending_at-le-held net t i (n i) sound);
      sent = omega (arith, sent, capacity, sending_at-le-capacity net t i (n i));
      exit = λ exit. omega (arith, outflow-exit net t i n sound exit);
      demand = demand;
      received = λ no_gate. omega (arith, inflow-le net t i n sound no_gate, capacity, receiving_at-le-capacity net t i (n i));
      room = λ road within.
          let no_gate = (road_at-alone net.cells i road).0 in
          omega (arith, inflow-le net t i n sound no_gate, add-receiving_at-le-most net t i (n i) sound has road within);
    }

-- the room of a cell is within its limit
most_of-le : (kind : Kind) (first : ℕ) → IsSoundKind kind first → most_of kind ≤ most_room
most_of-le (Road room num den) first sound = sound.limit
most_of-le Gate first sound = omega arith
most_of-le Exit first sound = omega arith

room_parts_at-le : (net : Network) (i : ℕ) → IsNetwork net → i < length net.cells → room_parts_at net.cells i ≤ most_room
room_parts_at-le net i sound has =
    let here = cell_at net.cells i has in
    rw here.1 (most_of-le here.0.kind here.0.first (All-at IsSoundCell net.cells i here.0 here.1 sound.sound.sound_cells).kind)

-- what a cell that is no exit holds
pub held-le : (net : Network) (t i n : ℕ) → IsNetwork net → i < length net.cells → is_exit_at net.cells i ≡ false →
    IsHeldInBounds net t i n → n ≤ most_parts
held-le net t i n sound has no_exit bounds = elim (kinds_at net.cells i has) [
  | inl road ↦ omega (arith, bounds.road road, room_parts_at-le net i sound has)
  | inr other ↦ elim other [ inl gate ↦ omega (arith, bounds.gate gate) | inr exit ↦ absurd cc ]
]

-- such a change keeps a row in bounds
pub moved_row-in_bounds : (net : Network) (t i : ℕ) (row : Row) (enters leaves : ℕ) → IsNetwork net → t < net.steps →
    i < length net.cells → IsRowInBounds net t i row → IsChange net t i row.n enters leaves →
    IsRowInBounds net (t + 1) i (moved_row net i row enters leaves)
moved_row-in_bounds net t i row enters leaves sound before has bounds change = record {
  held = record {
    road = λ road. omega (arith, change.room road (bounds.held.road road));
    gate = λ gate. omega (arith, bounds.held.gate gate, change.demand gate, demand_from_more net.plan i t net.steps before);
    exit = λ exit. omega (arith, bounds.held.exit exit, change.received (exit_at-no_gate net.cells i exit));
  };
  road_come = λ road. omega (arith, bounds.road_come road, change.received ((road_at-alone net.cells i road).0));
  gate_come = λ gate. omega (arith, bounds.gate_come gate, change.demand gate, demand_from_more net.plan i t net.steps before);
  exit_come = λ exit. omega (arith, bounds.exit_come exit, change.exit exit);
  exit_gone = λ exit. omega (arith, bounds.exit_gone exit, change.exit exit);
  exit_wait = λ exit. rw exit (bounds.exit_wait exit);
  gone = omega (arith, bounds.gone, change.sent);
  wait = elim (cases_Bool (is_exit_at net.cells i)) [
    | inl exit ↦ rw exit (omega (arith, bounds.wait))
    | inr no_exit ↦ rw no_exit (omega (arith, bounds.wait, held-le net t i row.n sound has no_exit bounds.held))
  ];
  balance = λ no_exit. omega (arith, bounds.balance no_exit, change.held);
}

-- a row in bounds fits the machine's numbers
pub record IsSmall (row : Row) : Type 0 where
  pub n : row.n ≤ most_steps * most_capacity
  pub come : row.come ≤ most_steps * most_capacity
  pub gone : row.gone ≤ most_steps * most_capacity
  pub wait : row.wait ≤ most_steps * most_parts

pub small : (net : Network) (t i : ℕ) (row : Row) → IsNetwork net → t ≤ net.steps → i < length net.cells →
    IsRowInBounds net t i row → IsSmall row
small net t i row sound within has bounds = elim (kinds_at net.cells i has) [
  | inl road ↦ record {
    n = omega (arith, bounds.held.road road, room_parts_at-le net i sound has, sound.few_steps);
    come = omega (arith, bounds.road_come road, sound.few_steps);
    gone = omega (arith, bounds.gone, sound.few_steps);
    wait = omega (arith, bounds.wait, sound.few_steps);
  }
  | inr other ↦ elim other [
    | inl gate ↦ record {
      n = omega (arith, bounds.held.gate gate);
      come = omega (arith, bounds.gate_come gate);
      gone = omega (arith, bounds.gone, sound.few_steps);
      wait = omega (arith, bounds.wait, sound.few_steps);
    }
    | inr exit ↦ record {
      n = omega (arith, bounds.held.exit exit, sound.few_steps);
      come = omega (arith, bounds.held.exit exit, bounds.exit_come exit, sound.few_steps);
      gone = omega (arith, bounds.gone, sound.few_steps);
      wait = omega (arith, bounds.wait, sound.few_steps);
    }
  ]
]

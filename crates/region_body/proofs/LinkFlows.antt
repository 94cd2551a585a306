-- The flow between two states is that of the link between their cells.
use Rattle.std.specs.Prelude.{if◌then◌else◌}
use Rattle.std.proofs.Common.{◌≡◌, ℕ, ◌≤◌, Bool, true, false, Option, Some, None, min, arith}
use Rattle.ordinary_link.specs.Flows.{receiving_flow, sending_flow}
use Rattle.ordinary_link.specs.declared.space.Room.{Room}
use Rattle.connector_flow.specs.Space.{HasSpace, IsSpaceOf, let_in}
use Rattle.connector_flow.specs.declared.space.Space.{Space}

lesser : (q_up q_down n_up let_in : ℕ) → min (min (min q_up q_down) n_up) let_in ≡ min (min q_up n_up) (min q_down let_in)
lesser q_up q_down n_up let_in = omega arith

lesser_boundless : (q_up q_down n_up let_in : ℕ) → q_down ≤ let_in → min (min (min q_up q_down) n_up) let_in ≡ min (min q_up n_up) q_down
lesser_boundless q_up q_down n_up let_in large = omega arith

pub link_flow-is : (q_up q_down n_up n_down : ℕ) (green : Bool) (space : Space) (room : Option Room) → IsSpaceOf space room →
    HasSpace n_down q_down room →
    min (min (min (if green then q_up else 0) q_down) n_up) (let_in space n_down) ≡
    min (sending_flow n_up q_up green) (receiving_flow n_down q_down room)
link_flow-is q_up q_down n_up n_down true space (Some room) is has =
    let same = (is n_down has).1 in rw (← same) (lesser q_up q_down n_up (let_in space n_down))
link_flow-is q_up q_down n_up n_down true space None is has =
    lesser_boundless q_up q_down n_up (let_in space n_down) (is n_down q_down has).1
link_flow-is q_up q_down n_up n_down false space room is has = omega arith

-- a state has room for what its cell can hold
pub held-fits : (n q : ℕ) (space : Space) (room : Option Room) → IsSpaceOf space room → HasSpace n q room → n ≤ space.storage
held-fits n q space (Some room) is has = (is n has).0
held-fits n q space None is has = (is n q has).0

use Rattle.std.specs.Prelude.{sum_by}
use Rattle.std.proofs.Common.{◌≡◌, ◌<◌, ℕ, length, take}
use Rattle.cell_sweep.specs.CellStates.{cell_state_at}
use Rattle.region_body.specs.Carrying.{brought, passed, taken}
use Rattle.region_body.specs.CellRefs.{given_before}
use Rattle.region_body.proofs.carry.carry_all.Given as goal

abbrev pub invariant-loop-connector : goal.invariant-loop-connector
invariant-loop-connector l =
    (p : ℕ) → p < length l.states → cell_state_at l.states p ≡ passed (cell_state_at l.initial.states p)
    (sum_by (brought l.t (given_before l.speeds l.before l.put) p) (take l.connector-index l.connectors))
    (sum_by (taken l.t (given_before l.speeds l.before l.put) p) (take l.connector-index l.connectors))

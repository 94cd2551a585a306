use Rattle.std.specs.List.{sum_by}
use Rattle.std.proofs.Common.{◌≡◌, ◌<◌, ◌≤◌, ℕ, length, get_or, take}
use Rattle.cell_sweep.specs.CellStates.{cell_state_at, with_entered}
use Rattle.region_body.specs.Gates.{asked, demand_into}
use Rattle.region_body.specs.declared.gate.GatePlace.{GatePlace}
use Rattle.region_body.proofs.demands.bring_demands.Given as goal

abbrev pub invariant-loop-m : goal.invariant-loop-m
invariant-loop-m l = record {
  long : length l.gates ≡ length l.initial.gates;
  done : (k : ℕ) (d : GatePlace) → k < l.m → get_or l.gates k d ≡ asked l.t (get_or l.initial.gates k d);
  rest : (k : ℕ) (d : GatePlace) → l.m ≤ k → get_or l.gates k d ≡ get_or l.initial.gates k d;
  states : (p : ℕ) → p < length l.states → cell_state_at l.states p ≡ with_entered (cell_state_at l.initial.states p) (sum_by (demand_into l.t p) (take l.m l.initial.gates));
}

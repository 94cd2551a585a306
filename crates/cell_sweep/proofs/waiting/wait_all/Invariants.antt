use Rattle.std.proofs.Common.{◌≡◌, ℕ, ◌<◌, ◌≤◌}
use Rattle.cell_sweep.specs.CellStates.{cell_state_at}
use Rattle.cell_sweep.specs.Waiting.{waited}
use Rattle.cell_sweep.proofs.waiting.wait_all.Given as goal

abbrev pub invariant-loop-p : goal.invariant-loop-p
invariant-loop-p l = record {
  done : (k : ℕ) → k < l.p → cell_state_at l.states k ≡ waited l.steps (cell_state_at l.initial.states k);
  rest : (k : ℕ) → l.p ≤ k → cell_state_at l.states k ≡ cell_state_at l.initial.states k;
}

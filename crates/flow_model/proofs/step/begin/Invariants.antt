use Rattle.std.proofs.Common.{◌≡◌, ℕ, ◌<◌}
use Rattle.flow_model.specs.Moves.{begun_row}
use Rattle.flow_model.specs.State.{row_at}
use Rattle.flow_model.proofs.step.begin.Given as goal

abbrev pub invariant-loop-i : goal.invariant-loop-i
invariant-loop-i l = (k : ℕ) → k < l.i → row_at l.new k ≡ begun_row l.net l.t k (row_at l.old k)

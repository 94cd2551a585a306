use Rattle.std.proofs.Common.{◌≡◌}
use Rattle.flow_model.specs.Moves.{with_connectors}
use Rattle.flow_model.specs.State.{next_rows}
use Rattle.flow_model.proofs.step.plain_step.Given as goal

abbrev pub invariant-loop-k : goal.invariant-loop-k
invariant-loop-k l = l.new ≡ next_rows (with_connectors l.net l.k) l.t l.old

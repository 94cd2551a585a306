use Rattle.std.proofs.Common.{◌≡◌}
use Rattle.number_deques.proofs.nest.Nest.fill.Given as goal

abbrev pub invariant-loop-region : goal.invariant-loop-region
invariant-loop-region l = l.self ≡ l.initial.self

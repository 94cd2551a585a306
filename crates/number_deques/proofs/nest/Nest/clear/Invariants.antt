use Rattle.std.proofs.Common.{◌≡◌}
use Rattle.number_deques.proofs.nest.Nest.clear.Given as goal

abbrev pub invariant-loop : goal.invariant-loop
invariant-loop l = l.self ≡ l.initial.self

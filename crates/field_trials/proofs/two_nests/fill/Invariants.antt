use Rattle.std.proofs.Common.{◌≡◌}
use Rattle.field_trials.proofs.two_nests.fill.Given as goal

abbrev pub invariant-loop-number : goal.invariant-loop-number
invariant-loop-number l = l.nest ≡ l.initial.nest

use Rattle.timelines.specs.Passing.{HasPassed}
use Rattle.timelines.proofs.timeline.pass.Given as goal

abbrev pub invariant-loop-k : goal.invariant-loop-k
invariant-loop-k g l =
    (start : g.row.V.Denot) → HasPassed start l.changes l.initial.k l.initial.value l.t → HasPassed start l.changes l.k l.value l.t

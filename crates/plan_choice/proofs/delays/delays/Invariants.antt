use Rattle.plan_choice.proofs.SideBySide.{AreDelays}
use Rattle.plan_choice.proofs.delays.delays.Given as goal

abbrev pub invariant-loop-delay : goal.invariant-loop-delay
invariant-loop-delay g l = AreDelays l.nets l.delay-index l.delays.items

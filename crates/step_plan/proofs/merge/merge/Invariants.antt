use Rattle.std.proofs.Common.{length, ◌-◌, ◌+◌}
use Rattle.step_plan.proofs.Merging.{IsMerged}
use Rattle.step_plan.proofs.merge.merge.Given as goal

abbrev pub invariant-loop-i : goal.invariant-loop-i
invariant-loop-i g l = IsMerged g.T.Join.joined g.T.Join.none l.older l.i l.old l.newer l.j l.new l.merged.items

abbrev pub decreases-loop-i : goal.decreases-loop-i
decreases-loop-i g l = (length l.older - l.i) + (length l.newer - l.j)

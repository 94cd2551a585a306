use Rattle.std.proofs.Common.{◌-◌, ◌≤◌}
use Rattle.worker_claim.specs.Helping.{IsHelperOf, IsKept}
use Rattle.region_slots.specs.Moments.{AreTold, cut_run}
use Rattle.worker_claim.specs.Turns.{HasWorked, turns_of}
use Rattle.worker_claim.proofs.helper.Helper.make_turns.Given as goal

-- so many turns were made
abbrev pub invariant-loop-driven : goal.invariant-loop-driven
invariant-loop-driven g l = IsHelperOf l.field l.self × IsKept l.field l.initial.self l.self × HasWorked l.field.terms l.initial.self.member.pass.knows l.self.member.pass.knows l.goal l.budget l.driven × (l.pauses ≤ turns_of l.driven) ×
    AreTold (g.W.Observer.told_held l.observer (cut_run l.field.terms.setup.now)) (g.W.Observer.told_freed l.observer (cut_run l.field.terms.setup.now)) l.initial.self.member.pass.knows.log l.self.member.pass.knows.log

abbrev pub decreases-loop-driven : goal.decreases-loop-driven
decreases-loop-driven g l = l.budget - turns_of l.driven

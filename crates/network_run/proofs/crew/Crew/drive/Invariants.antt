use Rattle.std.proofs.Common.{◌≡◌, length}
use Rattle.region_slots.specs.Moments.{cut_run}
use Rattle.worker_claim.specs.Telling.{AreMembersTold}
use Rattle.network_run.specs.Enlisted.{AreEnlisted}
use Rattle.network_run.specs.Rounds.{AreRounds}
use Rattle.network_run.proofs.crew.Crew.drive.Given as goal

-- each round so far has moved a region
abbrev pub invariant-loop-round : goal.invariant-loop-round
invariant-loop-round g l = (l.self.workers ≡ l.initial.self.workers) × (l.self.regions ≡ l.initial.self.regions) × (length l.self.members ≡ length l.initial.self.members) ×
    AreEnlisted l.field l.goal l.self.members × AreRounds l.field l.round 0 l.initial.self.members l.self.members ×
    AreMembersTold (g.W.Observer.told_held l.observer (cut_run l.field.terms.setup.now)) (g.W.Observer.told_freed l.observer (cut_run l.field.terms.setup.now)) l.initial.self.members l.self.members

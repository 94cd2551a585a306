use Rattle.std.specs.Prelude.{slice_index}
use Rattle.std.specs.List.{Contains}
use Rattle.std.proofs.Common.{◌≡◌, ◌≢◌, ◌≤◌, ◌+◌, ℕ, length}
use Rattle.region_slots.specs.FieldView.{IsPassOf}
use Rattle.worker_claim.specs.declared.member.Member.{Member}
use Rattle.network_run.specs.Crews.{IsReached}
use Rattle.network_run.specs.Enlisted.{AreEnlisted}
use Rattle.network_run.specs.Run.{AreFrom}
use Rattle.network_run.proofs.crew.Crew.dismiss.Given as goal

-- those who are left have the other seats
abbrev pub invariant-loop : goal.invariant-loop
invariant-loop l = (l.self.workers ≡ l.initial.self.workers) × (l.self.regions ≡ l.initial.self.regions) × IsPassOf l.field l.pass ×
    (l.pass.knows.share + length l.self.members ≡ l.initial.pass.knows.share + length l.initial.self.members) ×
    ((most : ℕ) → AreEnlisted l.field most l.initial.self.members → AreEnlisted l.field most l.self.members) ×
    ((r : ℕ) → slice_index l.initial.pass.knows.seen r ≤ slice_index l.pass.knows.seen r) ×
    ((most : ℕ) → l.initial.pass.knows.reach ≤ most → AreEnlisted l.field most l.initial.self.members → l.pass.knows.reach ≤ most) ×
    (l.pass.knows.share ≢ l.initial.pass.knows.share → l.pass.knows.share ≡ l.field.terms.seats → IsReached l.field.terms l.pass.knows) ×
    ((member : Member) → Contains l.self.members member → Contains l.initial.self.members member) × AreFrom l.initial.pass.knows.log l.initial.self.members l.pass.knows.log

abbrev pub decreases-loop : goal.decreases-loop
decreases-loop l = length l.self.members

use Rattle.std.specs.Prelude.{All}
use Rattle.std.proofs.Common.{◌≡◌, ◌≤◌, ◌+◌, ℕ, [], length}
use Rattle.region_slots.specs.FieldView.{IsPassOf}
use Rattle.network_run.specs.Enlisted.{AreEnlisted}
use Rattle.network_run.proofs.crew.Crew.enlist.Given as goal

-- so many have joined
abbrev pub invariant-loop-number : goal.invariant-loop-number
invariant-loop-number l = (l.self.workers ≡ l.initial.self.workers) × (l.self.regions ≡ l.initial.self.regions) × (length l.self.members ≡ l.number) × IsPassOf l.field l.pass ×
    (l.pass.knows.share + l.number ≡ l.initial.pass.knows.share) × (l.pass.knows.seen ≡ l.initial.pass.knows.seen) × (l.pass.knows.reach ≡ l.initial.pass.knows.reach) ×
    ((most : ℕ) → l.initial.pass.knows.reach ≤ most → AreEnlisted l.field most l.self.members) ×
    (l.pass.knows.log ≡ l.initial.pass.knows.log) × All (λ member. member.pass.knows.log ≡ []) l.self.members

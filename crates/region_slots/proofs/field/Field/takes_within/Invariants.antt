use Rattle.std.proofs.Common.{◌≡◌, ◌*◌, ◌-◌, ◌≤◌}
use Rattle.region_slots.specs.Gathering.{HasTried}
use Rattle.region_slots.proofs.field.Field.takes_within.Given as goal

abbrev pub invariant-loop-failed : goal.invariant-loop-failed
invariant-loop-failed l = (l.seat.id ≡ l.initial.seat.id) × (l.seat.table_id ≡ l.initial.seat.table_id) × (l.failed ≤ l.tries) ×
    HasTried l.initial.seat.me.0 l.seat.me.0 l.region l.failed × (l.seat.me.1 ≡ l.initial.seat.me.1) × (l.initial.seat.me.0.share ≡ l.self.terms.seats → l.failed ≡ 0) × (l.pauses ≤ 64 * l.failed)

abbrev pub decreases-loop-failed : goal.decreases-loop-failed
decreases-loop-failed l = l.tries - l.failed

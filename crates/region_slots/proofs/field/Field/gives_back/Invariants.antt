use Rattle.std.proofs.Common.{◌≡◌, ◌≤◌}
use Rattle.region_slots.specs.Gathering.{AreCarried, held_to}
use Rattle.region_slots.proofs.field.Field.gives_back.Given as goal

abbrev pub invariant-loop-left : goal.invariant-loop-left
invariant-loop-left l = (l.seat.id ≡ l.initial.seat.id) × (l.seat.table_id ≡ l.initial.seat.table_id) × (l.left ≤ l.count) ×
    (l.seat.me.0 ≡ record l.initial.seat.me.0 { holds = held_to l.initial.seat.me.0.seen l.left }) × AreCarried l.self.terms l.initial.seat.me.0.seen l.left l.seat.me.1

abbrev pub decreases-loop-left : goal.decreases-loop-left
decreases-loop-left l = l.left

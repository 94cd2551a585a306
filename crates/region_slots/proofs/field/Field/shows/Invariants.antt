use Rattle.std.proofs.Common.{◌≡◌, ◌≤◌}
use Rattle.region_cut.specs.Cuttings.{region_count}
use Rattle.snapshot.specs.Rooms.{IsRoomFor}
use Rattle.region_slots.proofs.Copying.{AreShown, IsTurning}
use Rattle.region_slots.proofs.field.Field.shows.Given as goal

abbrev pub invariant-loop-left : goal.invariant-loop-left
invariant-loop-left l = (l.seat.id ≡ l.initial.seat.id) × (l.seat.table_id ≡ l.initial.seat.table_id) × (l.seat.me.0 ≡ l.initial.seat.me.0) × (l.left ≤ region_count l.self.terms.setup.now.chart.cut) ×
    IsTurning l.self.terms l.initial.seat.me.0.seen l.left l.initial.seat.me.1 l.seat.me.1 × IsRoomFor l.self.terms.setup.now.chart l.room × AreShown l.self.terms l.initial.seat.me.0.seen l.left l.room

abbrev pub decreases-loop-left : goal.decreases-loop-left
decreases-loop-left l = l.left

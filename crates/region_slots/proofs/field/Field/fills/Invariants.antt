use Rattle.std.proofs.Common.{◌≡◌}
use Rattle.region_slots.specs.Turning.{wrote_many}
use Rattle.region_slots.proofs.field.Field.fills.Given as goal

abbrev pub invariant-loop-j : goal.invariant-loop-j
invariant-loop-j l = (l.seat.id ≡ l.initial.seat.id) × (l.seat.table_id ≡ l.initial.seat.table_id) × (l.seat.me ≡ (wrote_many l.initial.seat.me.0 l.j, l.initial.seat.me.1))

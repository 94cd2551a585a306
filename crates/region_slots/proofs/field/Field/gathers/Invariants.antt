use Rattle.std.specs.Prelude.{slice_index}
use Rattle.std.proofs.Common.{◌≡◌, ◌≤◌, ◌+◌, ℕ}
use Rattle.region_slots.specs.Gathering.{HasGathered}
use Rattle.region_slots.proofs.field.Field.gathers.Given as goal

abbrev pub invariant-loop-region : goal.invariant-loop-region
invariant-loop-region l = (l.seat.id ≡ l.initial.seat.id) × (l.seat.table_id ≡ l.initial.seat.table_id) × HasGathered l.self.terms l.initial.seat.me.0 l.region l.seat.me ×
    ((q : ℕ) → slice_index l.seat.me.0.held_found q ≤ slice_index l.initial.seat.me.0.held_found q + l.tries)

use Rattle.std.specs.Prelude.{slice_index}
use Rattle.std.specs.List.{Contains}
use Rattle.std.proofs.Common.{◌≡◌, ℕ, ◌<◌, ◌≤◌}
use Rattle.border_rows.specs.declared.view.Hold.{Hold}
use Rattle.region_slots.specs.FieldView.{IsWorkingAt}
use Rattle.region_slots.specs.Turning.{HasLooked}
use Rattle.region_slots.proofs.field.Field.clears.Given as goal

-- the neighbours before the k-th are cleared
abbrev pub invariant-loop-k : goal.invariant-loop-k
invariant-loop-k l = (l.seat.id ≡ l.initial.seat.id) × (l.seat.table_id ≡ l.initial.seat.table_id) × (l.seat.me.1 ≡ l.initial.seat.me.1) ×
    ((hold : Hold) → IsWorkingAt l.initial.seat.me.0 hold → HasLooked l.initial.seat.me.0 l.seat.me.0 hold) ×
    ((hold : Hold) (i : ℕ) → IsWorkingAt l.seat.me.0 hold → i < l.k → Contains hold.cleared (slice_index l.neighbours i)) ×
    ((i : ℕ) → i < l.k → l.step ≤ slice_index l.seat.me.0.seen (slice_index l.neighbours i))

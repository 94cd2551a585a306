use Rattle.std.proofs.Common.{◌≡◌, ◌∷◌}
use Rattle.region_step.specs.Region.{RegionValue}
use Rattle.atomic_table.specs.Table.{rest}
use Rattle.region_slots.specs.Turning.{IsTold}
use Rattle.region_slots.proofs.field.Field.tells.Given as goal

abbrev pub invariant-loop-j : goal.invariant-loop-j
invariant-loop-j l = (l.seat.id ≡ l.initial.seat.id) × (l.seat.table_id ≡ l.initial.seat.table_id) ×
    ((state : RegionValue) × (l.seat.me ≡ (l.initial.seat.me.0, (l.region, state) ∷ rest l.initial.seat.me.1)) × IsTold l.self.terms l.region l.step l.j state)

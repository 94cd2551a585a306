-- The watcher of a crew.
use Rattle.std.specs.Prelude.{◌≡◌, ℕ}
use Rattle.snapshot.specs.Rooms.{RoomValue}
use Rattle.region_slots.specs.FieldView.{FieldValue, IsPassOf, PassValue}
use Rattle.region_slots.specs.Shooting.{IsShotOf}
use Rattle.region_slots.specs.declared.shot.Shot.{Shot}

-- it has taken one shot with so many tries
pub record IsWatched (field : FieldValue) (tries : ℕ) (old new : PassValue) (before after : RoomValue) (answer : Shot) : Type 0 where
  pub belongs : IsPassOf field new × (new.id ≡ old.id)
  pub shot : IsShotOf field.terms tries old.knows new.knows before after answer

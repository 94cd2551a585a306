use Rattle.snapshot.specs.Rooms.{IsRoomFor}
use Rattle.region_slots.specs.FieldView.{IsPassOf}
use Rattle.run_trials.proofs.mixed_calls.shoot.Given as goal

abbrev pub invariant-loop : goal.invariant-loop
invariant-loop l = IsPassOf l.field l.pass × IsRoomFor l.layout.chart l.room

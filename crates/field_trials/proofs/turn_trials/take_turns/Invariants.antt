use Rattle.std.proofs.Common.{◌≡◌}
use Rattle.region_slots.specs.FieldView.{IsPassOf}
use Rattle.field_trials.proofs.turn_trials.take_turns.Given as goal

abbrev pub invariant-loop-told : goal.invariant-loop-told
invariant-loop-told g l = IsPassOf l.field l.pass × (l.pass.knows.share ≡ l.initial.pass.knows.share)

use Rattle.region_slots.specs.FieldView.{IsPassOf}
use Rattle.run_trials.proofs.mixed_calls.look_round.Given as goal

abbrev pub invariant-loop-k : goal.invariant-loop-k
invariant-loop-k l = IsPassOf l.field l.pass

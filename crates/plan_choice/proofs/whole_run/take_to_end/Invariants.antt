use Rattle.region_step.specs.Advance.{HasRowsInBounds}
use Rattle.region_step.specs.Standing.{Stands}
use Rattle.plan_choice.proofs.whole_run.take_to_end.Given as goal

abbrev pub invariant-loop-step : goal.invariant-loop-step
invariant-loop-step l = record { stands : Stands l.setup 0 l._step l.region; in_bounds : HasRowsInBounds l.setup.net l.setup.chart l.region.state }

use Rattle.std.specs.Prelude.{All}
use Rattle.std.proofs.Common.{◌≤◌, take}
use Rattle.region_step.proofs.start.are_in_time.Given as goal

abbrev pub invariant-loop-step : goal.invariant-loop-step
invariant-loop-step l = All (λ s. s ≤ l.last) (take l.step-index l.steps)

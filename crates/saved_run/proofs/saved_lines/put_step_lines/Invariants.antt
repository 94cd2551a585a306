use Rattle.std.specs.Prelude.{codes, flat_map}
use Rattle.std.proofs.Common.{◌≡◌, ◌++◌, take}
use Rattle.saved_run.specs.SavedText.{counted_line}
use Rattle.saved_run.proofs.saved_lines.put_step_lines.Given as goal

-- the lines of the steps so far
abbrev pub invariant-loop-step : goal.invariant-loop-step
invariant-loop-step l = l.text.items ≡ l.initial.text.items ++ flat_map (counted_line (codes "step")) (take l.step-index l.steps)

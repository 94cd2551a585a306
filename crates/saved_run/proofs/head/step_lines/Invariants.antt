use Rattle.std.proofs.Common.{◌≡◌, ◌-◌}
use Rattle.saved_run.specs.Reading.{step_lines_at}
use Rattle.saved_run.proofs.Turns.{with_before}
use Rattle.saved_run.proofs.head.step_lines.Given as goal

-- what is still to be read stands behind the steps that were read
abbrev pub invariant-loop-done : goal.invariant-loop-done
invariant-loop-done l = step_lines_at l.count l.text ≡ with_before l.steps.items (step_lines_at (l.count - l._done) l.left)

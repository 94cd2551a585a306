use Rattle.std.proofs.Common.{◌≡◌, ◌-◌, length}
use Rattle.saved_run.specs.Reading.{row_lines_at}
use Rattle.saved_run.proofs.Turns.{with_before}
use Rattle.saved_run.proofs.head.row_lines.Given as goal

-- what is still to be read stands behind the rows that were read
abbrev pub invariant-loop-done : goal.invariant-loop-done
invariant-loop-done l = row_lines_at (length l.text) l.text ≡ with_before l.rows.items (row_lines_at (length l.text - l._done) l.left)

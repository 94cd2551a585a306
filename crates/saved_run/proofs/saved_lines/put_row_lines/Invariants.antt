use Rattle.std.proofs.Common.{◌≡◌, ◌++◌, ◌<◌, ℕ}
use Rattle.line_fields.specs.Fields.{lines_of}
use Rattle.saved_run.specs.Content.{IsRowLine}
use Rattle.saved_run.specs.SavedText.{row_line}
use Rattle.saved_run.specs.Shown.{line_shown}
use Rattle.saved_run.proofs.saved_lines.put_row_lines.Given as goal

-- the lines of the cells before cell i
abbrev pub invariant-loop-i : goal.invariant-loop-i
invariant-loop-i l = record {
  lines : l.text.items ≡ l.initial.text.items ++ lines_of (λ i. row_line (line_shown l.layout.chart.cut l.room i)) l.i;
  numbers : (k : ℕ) → k < l.i → IsRowLine (line_shown l.layout.chart.cut l.room k);
}

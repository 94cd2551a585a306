use Rattle.std.proofs.Common.{◌≡◌, ◌≤◌, ◌++◌, length}
use Rattle.delay_report.specs.FromStart.{grid_note}
use Rattle.delay_report.specs.Report.{note_lines}
use Rattle.delay_report.proofs.RecordedSteps.{before}
use Rattle.delay_report.proofs.note_lines.put_note_lines.Given as goal

-- the lines of the recorded steps before t, of which there are k
abbrev pub invariant-loop-t : goal.invariant-loop-t
invariant-loop-t l = record {
  few : l.k ≤ l.t;
  count : l.k ≡ length (before l.by_cell.setup.net.steps l.by_cell.setup.every l.t);
  lines : l.text.items ≡
      l.initial.text.items ++ note_lines l.by_cell.setup.net.cells (grid_note l.by_cell.setup.net l.by_cell.setup.chart.cut l.by_cell.setup.start) (before l.by_cell.setup.net.steps l.by_cell.setup.every l.t);
}

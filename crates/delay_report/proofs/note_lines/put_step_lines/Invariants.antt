use Rattle.std.proofs.Common.{◌≡◌, ◌++◌}
use Rattle.network_file.specs.Cells.{name_at}
use Rattle.line_fields.specs.Fields.{lines_of}
use Rattle.delay_report.specs.FromStart.{grid_note}
use Rattle.delay_report.specs.Report.{note_line}
use Rattle.delay_report.proofs.note_lines.put_step_lines.Given as goal

-- the lines of the cells before i
abbrev pub invariant-loop-i : goal.invariant-loop-i
invariant-loop-i l =
    l.text.items ≡ l.initial.text.items ++ lines_of (λ i. note_line l.t (name_at l.cells i) (grid_note l.by_cell.setup.net l.by_cell.setup.chart.cut l.by_cell.setup.start l.t i)) l.i

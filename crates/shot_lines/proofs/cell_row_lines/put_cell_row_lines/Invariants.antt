use Rattle.std.proofs.Common.{◌≡◌, ◌++◌}
use Rattle.flow_model.specs.State.{row_at}
use Rattle.network_file.specs.Cells.{name_at}
use Rattle.line_fields.specs.Fields.{lines_of}
use Rattle.shot_lines.specs.ShotText.{cell_row_line}
use Rattle.shot_lines.proofs.cell_row_lines.put_cell_row_lines.Given as goal

-- the lines of the cells before i
abbrev pub invariant-loop-i : goal.invariant-loop-i
invariant-loop-i l = l.text.items ≡ l.initial.text.items ++ lines_of (λ i. cell_row_line (name_at l.cells i) (row_at l.rows i)) l.i

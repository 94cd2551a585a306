use Rattle.std.proofs.Common.{◌≡◌, ◌++◌}
use Rattle.network_file.specs.Cells.{name_at}
use Rattle.line_fields.specs.Fields.{lines_of}
use Rattle.region_cut.specs.Cuttings.{region_at}
use Rattle.workerless_modes.specs.CutMode.{cell_region_line}
use Rattle.workerless_modes.proofs.cut_mode.put_cell_region_lines.Given as goal

-- the lines of the cells before i
abbrev pub invariant-loop-i : goal.invariant-loop-i
invariant-loop-i l = l.text.items ≡ l.initial.text.items ++ lines_of (λ i. cell_region_line (name_at l.cells i) (region_at l.list i)) l.i

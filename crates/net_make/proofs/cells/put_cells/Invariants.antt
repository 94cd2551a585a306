use Rattle.std.specs.Prelude.{flat_map}
use Rattle.std.proofs.Common.{◌≡◌, ◌++◌}
use Rattle.net_make.specs.Made.{main_cell_lines, main_cells, text_of}
use Rattle.net_make.proofs.cells.put_cells.Given as goal

-- the lines of the main cells before i
abbrev pub invariant-loop-i : goal.invariant-loop-i
invariant-loop-i l = l.text.items ≡ l.initial.text.items ++ text_of (flat_map (main_cell_lines l.size) (main_cells l.i))

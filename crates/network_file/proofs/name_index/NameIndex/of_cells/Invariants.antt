use Rattle.std.proofs.Common.{take}
use Rattle.network_file.specs.NameIndexing.{IsIndexOf}
use Rattle.network_file.proofs.name_index.NameIndex.of_cells.Given as goal

-- the index is of the cells taken so far
abbrev pub invariant-loop-i : goal.invariant-loop-i
invariant-loop-i l = IsIndexOf l.index (take l.i l.cells)

use Rattle.std.proofs.Common.{◌≡◌, ◌*◌, ◌≤◌, ◌^◌, take}
use Rattle.std.specs.Prelude.{sum_by}
use Rattle.network_file.proofs.cell_table.CellTable.first_total.Given as goal

abbrev pub invariant-loop-cell : goal.invariant-loop-cell
invariant-loop-cell l = (l.total ≡ sum_by (λ cell. cell.first) (take l.cell-index l.cell-items)) × (l.total ≤ l.cell-index * 2 ^ 64)

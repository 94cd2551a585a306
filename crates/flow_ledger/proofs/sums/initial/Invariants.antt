use Rattle.std.proofs.Common.{◌≡◌, ◌*◌, ◌≤◌, ◌^◌, take}
use Rattle.std.specs.Prelude.{sum_by}
use Rattle.flow_ledger.proofs.sums.initial.Given as goal

abbrev pub invariant-loop-cell : goal.invariant-loop-cell
invariant-loop-cell l = (l.sum ≡ sum_by (λ cell. cell.first) (take l.cell-index l.cell-items)) × (l.sum ≤ l.cell-index * 2 ^ 64)

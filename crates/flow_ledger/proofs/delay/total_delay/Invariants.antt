use Rattle.std.proofs.Common.{◌≡◌, ◌*◌, ◌≤◌, ◌^◌, take}
use Rattle.std.specs.Prelude.{sum_by}
use Rattle.flow_ledger.proofs.delay.total_delay.Given as goal

abbrev pub invariant-loop-row : goal.invariant-loop-row
invariant-loop-row l = (l.sum ≡ sum_by (λ row. row.wait) (take l.row-index l.rows)) × (l.sum ≤ l.row-index * 2 ^ 64)

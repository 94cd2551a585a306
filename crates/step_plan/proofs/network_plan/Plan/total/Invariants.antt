use Rattle.std.specs.Prelude.{sum_by}
use Rattle.std.proofs.Common.{◌≡◌, take}
use Rattle.step_plan.proofs.Totals.{brought_to}
use Rattle.step_plan.proofs.network_plan.Plan.total.Given as goal

abbrev pub invariant-loop-cell : goal.invariant-loop-cell
invariant-loop-cell l = l.total ≡ sum_by (brought_to l.steps) (take l.cell-index l.cell-items)

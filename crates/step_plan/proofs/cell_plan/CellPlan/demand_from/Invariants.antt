use Rattle.std.specs.Prelude.{sum_by}
use Rattle.std.proofs.Common.{◌≡◌, take}
use Rattle.step_plan.proofs.Totals.{brought}
use Rattle.step_plan.proofs.cell_plan.CellPlan.demand_from.Given as goal

abbrev pub invariant-loop-demand : goal.invariant-loop-demand
invariant-loop-demand l = l.amount ≡ sum_by (brought l.t l.end) (take l.demand-index l.demand-items)

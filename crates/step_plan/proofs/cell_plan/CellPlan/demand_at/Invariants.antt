use Rattle.std.specs.Prelude.{sum_by}
use Rattle.std.proofs.Common.{◌≡◌, take}
use Rattle.step_plan.proofs.Totals.{brings}
use Rattle.step_plan.proofs.cell_plan.CellPlan.demand_at.Given as goal

abbrev pub invariant-loop-demand : goal.invariant-loop-demand
invariant-loop-demand l = l.amount ≡ sum_by (λ demand. brings demand l.t) (take l.demand-index l.demand-items)

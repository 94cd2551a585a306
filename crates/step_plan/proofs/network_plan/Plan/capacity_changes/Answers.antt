use Rattle.std.proofs.Common.{ap, ◌∙◌}
use Rattle.std.proofs.lemmas.Result.{IfOk-weaker}
use Rattle.step_plan.specs.Records.{PlannedCell}
use Rattle.step_plan.proofs.Planned.{planned_read}
use Rattle.step_plan.proofs.CellReads.{capacity_read}
use Rattle.step_plan.proofs.network_plan.Plan.capacity_changes.Goals as goal

pub returns-clause-in_force : goal.returns-clause-in_force
returns-clause-in_force c =
    let has = rw (← c.self.view_is) at c.requires.has_cell in
    let start = ap (λ (cell : PlannedCell). cell.capacity) (planned_read _ c.args.cell _ has c.index.ensures) in
    IfOk-weaker c.capacity_changes.result _ _ (λ changes same t. rw (← c.self.view_is, ← start) (
    same t ∙ capacity_read _ c.args.cell t _ has c.index.ensures
    )) c.capacity_changes.ensures.in_force

use Rattle.std.proofs.Common.{◌≡◌, ℕ, ◌∙◌}
use Rattle.std.proofs.lemmas.Result.{IfOk-weaker}
use Rattle.step_plan.specs.Changes.{in_force}
use Rattle.step_plan.specs.Alone.{alone}
use Rattle.step_plan.specs.Speeds.{speed_at}
use Rattle.step_plan.proofs.CellReads.{speed_read}
use Rattle.step_plan.proofs.network_plan.Plan.speed_changes.Goals as goal

pub returns-clause-in_force : goal.returns-clause-in_force
returns-clause-in_force c =
    let has = rw (← c.self.view_is) at c.requires.has_cell in
    IfOk-weaker c.speed_changes.result (λ changes. (t : ℕ) → in_force (1, 1) changes.items t ≡ speed_at (alone c.index.result.now) 0 t) _ (λ changes same t. rw (← c.self.view_is) (
    same t ∙ speed_read _ c.args.cell t _ has c.index.ensures
    )) c.speed_changes.ensures.in_force

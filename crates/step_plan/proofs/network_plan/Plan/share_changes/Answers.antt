use Rattle.std.proofs.Common.{◌≡◌, ℕ, ◌∙◌}
use Rattle.std.proofs.lemmas.Result.{IfOk-weaker}
use Rattle.step_plan.specs.Changes.{in_force}
use Rattle.step_plan.specs.Alone.{alone}
use Rattle.step_plan.specs.Turning.{shares_at}
use Rattle.step_plan.proofs.CellReads.{shares_read}
use Rattle.step_plan.proofs.network_plan.Plan.share_changes.Goals as goal

pub returns-clause-in_force : goal.returns-clause-in_force
returns-clause-in_force c =
    let has = rw (← c.self.view_is) at c.requires.has_cell in
    IfOk-weaker c.share_changes.result (λ changes. (t : ℕ) → in_force c.args.own changes.items t ≡ shares_at (alone c.index.result.now) 0 t c.args.own) _ (λ changes same t. rw (← c.self.view_is) (
    same t ∙ shares_read _ c.args.cell t c.args.own _ has c.index.ensures
    )) c.share_changes.ensures.in_force

use Rattle.std.specs.Prelude.{reverse}
use Rattle.std.specs.List.{find}
use Rattle.std.specs.Option.{option_map}
use Rattle.std.proofs.Common.{ap, ◌∙◌}
use Rattle.std.proofs.lemmas.Result.{IfOk-weaker}
use Rattle.step_plan.specs.Capacity.{capacity_at}
use Rattle.step_plan.specs.Records.{LimitRecord, PlannedCell, in_range}
use Rattle.step_plan.proofs.Changes.{in_force-filled, IsRising-filled}
use Rattle.step_plan.proofs.Given.{given_by-last}
use Rattle.step_plan.proofs.cell_plan.CellPlan.capacity_changes.Goals as goal

pub returns-clause-in_force : goal.returns-clause-in_force
unfolding capacity_at
returns-clause-in_force c =
    let capacity = ap (λ (cell : PlannedCell). cell.capacity) c.self.view_is in
    IfOk-weaker c.with_fallback.result _ _ (λ changes is t. rw (← capacity)
    (in_force-filled c.self.inside.capacity c.deref.result.now changes.items (λ limit. limit.capacity) (find (λ limit. in_range limit.from limit.to t) (reverse c.args.self.now.records.limits)) t is
    (rw c.deref.ensures.value (c.in_ok-changes.ensures.in_force t ∙
    given_by-last (λ (limit : LimitRecord). limit.capacity) (λ limit step. in_range limit.from limit.to step) c.limits.result.now t ∙
    ap (λ limits. option_map (λ limit. limit.capacity) (find (λ limit. in_range limit.from limit.to t) (reverse limits))) c.limits.ensures))))
    c.with_fallback.ensures

pub returns-clause-rising : goal.returns-clause-rising
returns-clause-rising c =
    IfOk-weaker c.with_fallback.result _ _ (λ changes is.
    IsRising-filled c.self.inside.capacity c.deref.result.now changes.items is (rw c.deref.ensures.value c.in_ok-changes.ensures.rising))
    c.with_fallback.ensures

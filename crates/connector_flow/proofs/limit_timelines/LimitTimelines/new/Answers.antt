use Rattle.std.specs.Prelude.{slice_index}
use Rattle.std.proofs.Common.{refl, sym, ap, ◌∙◌}
use Rattle.timelines.specs.Cells.{most_by}
use Rattle.connector_flow.specs.Limits.{limits_by}
use Rattle.connector_flow.specs.declared.limit_timelines.LimitTimelines.{LimitTimelines}
use Rattle.connector_flow.proofs.Bounding.{limits-are}
use Rattle.connector_flow.proofs.limit_timelines.LimitTimelines.new.Goals as goal

pub returns-clause-limits : goal.returns-clause-limits
returns-clause-limits c = λ t.
    let plan = c.args.plan.now in
    let timelines : LimitTimelines = record { first = c.in_ok-new.field-0; second = c.in_ok-new-2.field-0; third = c.in_ok-new-3.field-0; weights = c.args.weights } in
    sym (limits-are timelines (limits_by plan c.args.rule c.args.cells c.args.weights t) t
    (sym (c.in_ok-new.ensures.most t)) (sym (c.in_ok-new-2.ensures.most t ∙ ap (λ sends. most_by plan (slice_index c.args.cells 1) sends t) c.sends_second.ensures)) (sym (c.in_ok-new-3.ensures.most t)) refl)

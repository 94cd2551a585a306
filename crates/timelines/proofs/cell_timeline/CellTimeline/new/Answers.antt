use Rattle.std.proofs.Common.{◌≡◌, sym, ap, ◌∙◌}
use Rattle.step_plan.specs.Capacity.{capacity_at}
use Rattle.step_plan.specs.Changes.{in_force}
use Rattle.timelines.specs.Timelines.{value_at}
use Rattle.timelines.proofs.Starts.{in_force-start}
use Rattle.timelines.proofs.Cells.{most-by}
use Rattle.timelines.proofs.cell_timeline.CellTimeline.new.Goals as goal

pub returns-clause-most : goal.returns-clause-most
returns-clause-most c = λ t.
    let plan = c.args.plan.now in
    let changes = c.in_ok-changes.changes.items in
    let most : value_at c.new.result t ≡ capacity_at plan c.args.cell t =
    ap (λ timeline. value_at timeline t) c.new.ensures ∙ ap (λ start. in_force start changes t) (c.capacity.ensures ∙ sym (c.in_ok-changes.ensures.in_force 0))
    ∙ in_force-start _ t changes ∙ c.in_ok-changes.ensures.in_force t in
    most-by (record { capacity = c.new.result; signal = c.signal_by.result }) plan c.args.cell t c.args.sends most (c.signal_by.ensures t)

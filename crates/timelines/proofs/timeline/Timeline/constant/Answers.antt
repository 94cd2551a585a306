use Rattle.std.proofs.Common.{ap, ◌∙◌}
use Rattle.step_plan.specs.Changes.{in_force}
use Rattle.step_plan.proofs.Changes.{in_force-nil}
use Rattle.timelines.specs.Timelines.{value_at}
use Rattle.timelines.proofs.timeline.Timeline.constant.Goals as goal

pub returns-clause-value : goal.returns-clause-value
returns-clause-value g c = λ t.
    ap (λ line. value_at line t) c.new-2.ensures ∙ ap (λ list. in_force c.args.value list t) c.new.ensures.items ∙ in_force-nil c.args.value t

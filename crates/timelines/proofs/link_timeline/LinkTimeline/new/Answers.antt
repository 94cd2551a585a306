use Rattle.timelines.specs.Links.{LinkValues}
use Rattle.timelines.proofs.Links.{most-planned}
use Rattle.timelines.proofs.link_timeline.LinkTimeline.new.Goals as goal

pub returns-clause-timeline : goal.returns-clause-timeline
returns-clause-timeline c = λ t.
    let link : LinkValues = record { up = c.in_ok-new.field-0; down = c.in_ok-new-2.field-0; step = c.in_ok-new.field-0.capacity.step } in
    most-planned link c.args.plan.now c.args.up c.args.down t (c.in_ok-new.ensures.most t) (c.in_ok-new-2.ensures.most t)

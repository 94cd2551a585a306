use Rattle.std.proofs.Common.{ap, ◌∙◌, arith}
use Rattle.timelines.specs.Cells.{cell_most}
use Rattle.timelines.specs.Links.{LinkValues, most_at}
use Rattle.timelines.proofs.Cells.{most-moved}
use Rattle.timelines.proofs.Links.{most-is, most-same, same-moved}
use Rattle.timelines.proofs.link_timeline.LinkTimeline.move_to.Goals as goal

-- the link as it was opened
abbrev opened : goal.After-min-2 → LinkValues
opened c = record { up = c.self.inside.up; down = c.self.inside.down; step = c.self.inside.up.capacity.step }

pub returns-clause-value : goal.returns-clause-value
returns-clause-value c =
    c.min.ensures
    ∙ most-is (opened c) c.args.t c.move_to-up.result.value c.move_to-down.result.value c.move_to-up.ensures.value c.move_to-down.ensures.value
    ∙ ap (λ link. most_at link c.args.t) c.self.view_is

pub returns-clause-steady : goal.returns-clause-steady
returns-clause-steady c = λ s from before.
    let same = most-same (opened c) s c.args.t (c.move_to-up.ensures.steady s from (omega arith)) (c.move_to-down.ensures.steady s from (omega arith)) in
    rw c.self.view_is at same

pub returns-clause-timeline : goal.returns-clause-timeline
returns-clause-timeline c = λ s.
    same-moved (opened c) c.move_to-up.new.self c.move_to-down.new.self _ s
    (ap (λ cell. cell_most cell s) c.move_to-up.ensures.moved ∙ most-moved c.self.inside.up s c.args.t)
    (ap (λ cell. cell_most cell s) c.move_to-down.ensures.moved ∙ most-moved c.self.inside.down s c.args.t)
    ∙ ap (λ link. most_at link s) c.self.view_is

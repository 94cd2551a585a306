use Rattle.std.proofs.Common.{refl}
use Rattle.timelines.specs.Links.{LinkValues}
use Rattle.timelines.proofs.Links.{most-same}
use Rattle.timelines.proofs.link_timeline.LinkTimeline.is_constant.Goals as goal

pub returns-then-is_constant : goal.returns-then-is_constant
returns-then-is_constant c = λ steady s t.
    let link : LinkValues = record { up = c.self.inside.up; down = c.self.inside.down; step = c.self.inside.up.capacity.step } in
    let same = most-same link s t (c.if-is_constant.ensures refl s t) (c.is_constant-then-is_constant.ensures steady s t) in
    rw c.self.view_is at same

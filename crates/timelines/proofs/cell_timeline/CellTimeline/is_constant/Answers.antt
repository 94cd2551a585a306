use Rattle.std.specs.Prelude.{not, is_some}
use Rattle.std.proofs.Common.{◌≡◌, false, ap, ◌∙◌}
use Rattle.timelines.specs.Cells.{CellValues}
use Rattle.timelines.proofs.Cells.{light-none, most-same}
use Rattle.timelines.proofs.cell_timeline.CellTimeline.is_constant.Goals as goal

pub returns-then-is_none : goal.returns-then-is_none
returns-then-is_none c = λ steady s t.
    let cell : CellValues = record { capacity = c.self.inside.capacity; signal = c.self.inside.signal } in
    let none : is_some c.self.inside.signal ≡ false = c.is_none.ensures ∙ ap not c.if-is_none.true in
    let same = most-same cell s t (c.is_constant.ensures steady s t) (light-none c.self.inside.signal s t none) in
    rw c.self.view_is at same

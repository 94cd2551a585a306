use Rattle.std.proofs.Common.{◌≡◌, ap, ◌∙◌, arith}
use Rattle.timelines.specs.Timelines.{value_at}
use Rattle.timelines.specs.Cells.{CellValues, cell_most}
use Rattle.timelines.proofs.Cells.{most-is, most-same}
use Rattle.timelines.proofs.cell_timeline.CellTimeline.move_to.Goals as goal

-- the cell as it was opened
abbrev opened : goal.After-min → CellValues
opened c = record { capacity = c.self.inside.capacity; signal = c.self.inside.signal }

pub returns-clause-value : goal.returns-clause-value
returns-clause-value c =
    let most : c.now-now.result.value ≡ value_at c.self.inside.capacity c.args.t =
    c.now-now.ensures.value ∙ ap (λ timeline. value_at timeline timeline.step) c.move_to.ensures in
    c.passing.ensures ∙ most-is (opened c) c.args.t c.now-now.result.value c.light-light.result.value most c.light-light.ensures.green
    ∙ ap (λ cell. cell_most cell c.args.t) c.self.view_is

pub returns-clause-steady : goal.returns-clause-steady
returns-clause-steady c = λ s from before.
    let steady = rw c.move_to.ensures at c.now-now.ensures.steady in
    let same = most-same (opened c) s c.args.t (steady s from (omega arith)) (c.light-light.ensures.steady s from (omega arith)) in
    rw c.self.view_is at same

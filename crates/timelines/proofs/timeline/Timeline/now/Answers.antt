use Rattle.std.proofs.Common.{◌≡◌, sym, ap, ◌∙◌, arith}
use Rattle.timelines.specs.Timelines.{value_at}
use Rattle.timelines.proofs.Passing.{come-now, come-until}
use Rattle.timelines.proofs.timeline.Timeline.now.Goals as goal

pub returns-clause-value : goal.returns-clause-value
returns-clause-value g c =
    let line = c.self.inside in
    sym (come-now line.start line.changes.items line.come line.value line.until line.step c.self.invariant)
    ∙ ap (λ timeline. value_at timeline timeline.step) c.self.view_is

pub returns-clause-steady : goal.returns-clause-steady
returns-clause-steady g c = λ s from before.
    let line = c.self.inside in
    let step : line.step ≡ c.args.self.now.step = ap (λ timeline. timeline.step) c.self.view_is in
    ap (λ timeline. value_at timeline s) (sym c.self.view_is)
    ∙ come-until line.start line.changes.items line.come line.value line.until line.step s c.self.invariant (omega arith) (omega arith)
    ∙ returns-clause-value g c

pub returns-clause-later : goal.returns-clause-later
returns-clause-later g c = λ few.
    let step : c.self.inside.step ≡ c.args.self.now.step = ap (λ timeline. timeline.step) c.self.view_is in
    let later = c.self.invariant.later (omega arith) in
    omega arith

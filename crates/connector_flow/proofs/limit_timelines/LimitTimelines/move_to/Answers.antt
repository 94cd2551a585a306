use Rattle.std.proofs.Common.{◌≡◌, ap, sym, subst, ◌∙◌, arith}
use Rattle.timelines.specs.Timelines.{value_at}
use Rattle.connector_flow.specs.Weights.{AreBoth}
use Rattle.connector_flow.proofs.Bounding.{limits-are, limits-same}
use Rattle.connector_flow.proofs.limit_timelines.LimitTimelines.move_to.Goals as goal

pub returns-clause-value : goal.returns-clause-value
returns-clause-value c =
    limits-are c.args.self.now _ c.args.t c.move_to-first.ensures.value c.move_to-second.ensures.value c.move_to-third.ensures.value
    (c.renewed.ensures ∙ c.now-weights.ensures.value ∙ ap (λ line. value_at line line.step) c.move_to.ensures)

pub returns-clause-steady : goal.returns-clause-steady
returns-clause-steady c = λ s from before.
    let steady = rw c.move_to.ensures at c.now-weights.ensures.steady in
    limits-same c.args.self.now s c.args.t (c.move_to-first.ensures.steady s from (omega arith)) (c.move_to-second.ensures.steady s from (omega arith))
    (c.move_to-third.ensures.steady s from (omega arith)) (steady s from (omega arith))

pub renewed-requires : goal.renewed-requires
renewed-requires c =
    let is : c.now-weights.result.value ≡ value_at c.args.self.now.weights c.args.t =
    c.now-weights.ensures.value ∙ ap (λ line. value_at line line.step) c.move_to.ensures in
    subst (λ pair. AreBoth pair) (sym is) (c.requires.weights c.args.t)

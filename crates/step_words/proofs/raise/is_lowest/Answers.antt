use Rattle.std.specs.Prelude.{All, slice_index}
use Rattle.std.proofs.Common.{◌≤◌, refl, subst, ◌∙◌}
use Rattle.std.proofs.lemmas.List.{take_all}
use Rattle.std.proofs.lemmas.List.Elements.{All-more}
use Rattle.step_words.proofs.raise.is_lowest.Goals as goal

pub loop-q-preserved : goal.loop-q-preserved
loop-q-preserved c =
    All-more (λ q. slice_index c.args.steps.now c.args.r ≤ slice_index c.args.steps.now q) c.neighbours-neighbours.result.now c.loop-q.q-index 0 c.loop-q-test.true c.loop-q.invariant c.if-other-step.false

pub returns : goal.returns
returns c =
    let all = subst (All (λ q. slice_index c.args.steps.now c.args.r ≤ slice_index c.args.steps.now q)) (take_all _ c.neighbours-neighbours.result.now c.loop-q-test.false ∙ c.neighbours-neighbours.ensures.list) c.loop-q.invariant in
    ((λ yes. all), (λ each. refl))

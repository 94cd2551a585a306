use Rattle.std.proofs.Common.{refl, ap, sym, subst, ◌∙◌, arith}
use Rattle.connector_flow.specs.Limits.{AreInForce, limits_of_timelines, limits_by, limits_in}
use Rattle.connector_flow.specs.Weights.{AreWeights}
use Rattle.connector_flow.proofs.Bounding.{in_force-moved, limits-moved}
use Rattle.connector_flow.proofs.connector_timeline.made_of.Goals as goal

pub returns-then-now-net : goal.returns-then-now-net
unfolding limits_in
returns-then-now-net c = record {
  rule_is = refl;
  limits = λ t before.
      c.move_to-now.ensures.value ∙ sym (c.move_to-now.ensures.steady t (omega arith) (omega (arith, ap (λ net. net.steps) c.net.view_is)))
      ∙ c.in_ok-timelines.ensures.limits t ∙ ap (λ net. limits_by net.plan c.args.rule c.args.cells c.args.weights t) c.net.view_is;
  second = c.space_of-second_space.ensures;
  third = c.space_of-third_space.ensures;
  step = refl;
}

pub invariant_of-result-2 : goal.invariant_of-result-2
invariant_of-result-2 c =
    let now = c.move_to-now.result in
    let weights : AreWeights c.in_ok-timelines.timelines.weights = subst (λ one. AreWeights one) (sym c.in_ok-timelines.ensures.weights) c.requires.weights in
    subst (λ timelines. AreInForce timelines now.value 0 now.until) (sym (c.in_ok-new.ensures.ok ∙ c.move_to-now.ensures.moved))
    (in_force-moved c.in_ok-timelines.timelines now.value 0 now.until c.move_to-now.ensures.value c.move_to-now.ensures.steady c.move_to-now.ensures.later weights)

pub returns : goal.returns
unfolding limits_in
returns c = record {
  rule_is = refl;
  limits = λ t before.
      ap (λ timelines. limits_of_timelines timelines t) (c.in_ok-new.ensures.ok ∙ c.move_to-now.ensures.moved) ∙ limits-moved c.in_ok-timelines.timelines 0 t
      ∙ c.in_ok-timelines.ensures.limits t ∙ ap (λ net. limits_by net.plan c.args.rule c.args.cells c.args.weights t) c.net.view_is;
  second = c.space_of-second_space.ensures;
  third = c.space_of-third_space.ensures;
  step = refl;
}

use Rattle.std.specs.Prelude.{All}
use Rattle.std.proofs.Common.{◌≤◌, arith, refl, subst}
use Rattle.std.proofs.lemmas.List.{take_all}
use Rattle.std.proofs.lemmas.List.Elements.{All-more}
use Rattle.region_step.proofs.start.are_in_time.Goals as goal

pub loop-step-preserved : goal.loop-step-preserved
loop-step-preserved c =
    All-more (λ s. s ≤ c.args.last) c.args.steps.now c.loop-step.step-index 0 c.loop-step-test.true c.loop-step.invariant (omega (arith, c.if-step-last.false))

pub returns : goal.returns
returns c =
    ((λ yes. subst (All (λ s. s ≤ c.args.last)) (take_all _ c.args.steps.now c.loop-step-test.false) c.loop-step.invariant), (λ each. refl))

use Rattle.std.specs.Prelude.{Ok, slice_index_or}
use Rattle.std.proofs.Common.{◌+◌, ◌++◌, ◌∷◌, [], ap, arith, length, subst, sym, ◌∙◌}
use Rattle.plan_choice.proofs.SideBySide.{AreDelays, more-delays}
use Rattle.plan_choice.proofs.delays.delays.Goals as goal

pub loop-delay-preserved : goal.loop-delay-preserved
loop-delay-preserved g c =
    subst (AreDelays c.args.nets.now (c.loop-delay.delay-index + 1)) {x = c.loop-delay.delays.items ++ c.in-Ok.delay ∷ []} (sym c.in_ok-push-in-Ok.ensures.items)
    (more-delays c.args.nets.now c.in_ok-found.found.items c.loop-delay.delay-index c.in-Ok.delay c.loop-delay.delays.items
    (omega (arith, c.loop-delay-test.true, c.in_ok-found.ensures.one_each, ap length c.deref-delay-items.ensures.value)) c.in_ok-found.ensures
    (ap (λ found. slice_index_or found c.loop-delay.delay-index (Ok 0)) (sym c.deref-delay-items.ensures.value) ∙ c.in-Ok.is) c.loop-delay.invariant)

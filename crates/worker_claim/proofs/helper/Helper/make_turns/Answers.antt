use Rattle.std.proofs.Common.{◌+◌, ◌-◌, ◌≤◌, ℕ, sym, subst, ap, ◌∙◌, arith}
use Rattle.region_slots.specs.Moments.{cut_run}
use Rattle.number_deques.specs.Nests.{NestValue}
use Rattle.worker_claim.specs.Turns.{HasWorked, turns_of}
use Rattle.worker_claim.specs.declared.driven.Driven.{Driven}
use Rattle.worker_claim.proofs.Helped.{worked-more}
use Rattle.region_slots.proofs.Observed.{told-more}
use Rattle.worker_claim.proofs.helper.Helper.make_turns.Goals as goal

pub loop-driven-preserved : goal.loop-driven-preserved
loop-driven-preserved g c =
    let helper = c.loop-driven.invariant.0 in
    let before = c.loop-driven.invariant.1 in
    let kept = c.work-made.ensures.kept in
    let one : Driven = c.loop-driven.driven in
    let made : Driven = c.work-made.result in
    let budget : ℕ = c.args.budget in
    let fits : turns_of one + (budget - c.turns-in-loop-driven.result) ≤ budget = omega (arith, c.turns-in-loop-driven.ensures, c.loop-driven.invariant.2.within) in (
      record {
        member = record { belongs = kept.belongs; there = omega (arith, kept.first, helper.member.there) };
        nest = ap (λ (n : NestValue). n.regions) kept.nest ∙ helper.nest;
      },
      record { belongs = kept.belongs; id = kept.id ∙ before.id; first = kept.first ∙ before.first; nest = kept.nest ∙ before.nest },
      subst (λ (d : Driven). HasWorked c.args.field.now.terms c.args.self.now.member.pass.knows c.work-made.new.self.member.pass.knows c.args.goal budget d) (sym c.then-driven.ensures)
          (worked-more _ _ _ _ _ budget _ one made c.loop-driven.invariant.2 c.work-made.ensures.worked fits),
      subst (λ (d : Driven). c.pause_where.new.pauses ≤ turns_of d) (sym c.then-driven.ensures) (omega (arith, c.pause_where.ensures, c.loop-driven.invariant.3, c.work-made.ensures.some)),
      told-more (g.W.Observer.told_held c.args.observer.now (cut_run c.args.field.now.terms.setup.now)) (g.W.Observer.told_freed c.args.observer.now (cut_run c.args.field.now.terms.setup.now)) c.args.self.now.member.pass.knows.log c.loop-driven.self.member.pass.knows.log c.work-made.new.self.member.pass.knows.log
          c.loop-driven.invariant.4 c.work-made.ensures.told,
    )

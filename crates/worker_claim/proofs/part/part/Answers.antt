use Rattle.std.proofs.Common.{sym, subst, arith}
use Rattle.region_slots.specs.Moments.{cut_run}
use Rattle.worker_claim.specs.Turns.{HasWorked, added}
use Rattle.worker_claim.specs.declared.driven.Driven.{Driven}
use Rattle.worker_claim.proofs.Helped.{counted-then, worked-going}
use Rattle.region_slots.proofs.Observed.{told-more}
use Rattle.worker_claim.proofs.part.part.Goals as goal

pub returns-clause-worked : goal.returns-clause-worked
returns-clause-worked g c =
    let one : Driven = c.turns-one.result in
    let other : Driven = c.turns-other.result in
    subst (λ (d : Driven). HasWorked c.args.field.now.terms c.args.pass.now.knows c.turns-other.new.pass.knows c.args.goal c.args.many d) (sym c.then.ensures)
    (worked-going _ _ _ _ _ (added one other) (counted-then _ _ _ _ _ one other c.turns-one.ensures.turned.counted c.turns-other.ensures.turned.counted)
    (omega (arith, c.turns-one.ensures.turned.turns, c.turns-other.ensures.turned.turns)) c.turns-other.ensures.going)

pub returns-clause-told : goal.returns-clause-told
returns-clause-told g c =
    told-more (g.W.Observer.told_held c.args.observer.now (cut_run c.args.field.now.terms.setup.now)) (g.W.Observer.told_freed c.args.observer.now (cut_run c.args.field.now.terms.setup.now)) c.args.pass.now.knows.log c.turns-one.new.pass.knows.log c.turns-other.new.pass.knows.log
    c.turns-one.ensures.told c.turns-other.ensures.told

use Rattle.std.proofs.Common.{ℕ, subst}
use Rattle.region_slots.specs.Moments.{cut_run}
use Rattle.wait_call.specs.Seats.{AreFrom}
use Rattle.wait_call.proofs.Uniting.{told-united}
use Rattle.wait_call.proofs.waiting_run.take_to_last.Goals as goal

pub returns-clause-told : goal.returns-clause-told
returns-clause-told g c =
    let held : ℕ → ℕ → Type 0 = g.W.Observer.told_held c.args.observer.now (cut_run c.args.field.now.terms.setup.now) in
    let freed : ℕ → ℕ → Type 0 = g.W.Observer.told_freed c.args.observer.now (cut_run c.args.field.now.terms.setup.now) in
    let last = c.unite_all.new.pass.knows.log in
    let from : AreFrom c.args.pass.now.knows.log c.park.new.passes.items last =
    subst (λ own. AreFrom own c.park.new.passes.items last) c.share_off.ensures.log c.unite_all.ensures.log in
    told-united held freed c.args.pass.now.knows.log last c.share_off.new.passes.items c.park.new.passes.items c.park.ensures.one_each c.share_off.ensures.nothing c.park.ensures.told from

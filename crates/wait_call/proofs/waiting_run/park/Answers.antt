use Rattle.std.proofs.Common.{ℕ, List, length, sym, subst, ◌∙◌, ◌≡◌}
use Rattle.std.proofs.lemmas.List.{with_items_is}
use Rattle.region_slots.specs.FieldView.{PassValue}
use Rattle.region_slots.specs.Moments.{cut_run}
use Rattle.parked_crew.specs.Parking.{AreBrought, ArePassesOf}
use Rattle.parked_crew.specs.Telling.{ArePassesTold}
use Rattle.wait_call.proofs.Uniting.{brought-come, seats-belong}
use Rattle.wait_call.proofs.waiting_run.park.Goals as goal

pub parked-requires-clause-passes : goal.parked-requires-clause-passes
parked-requires-clause-passes g c = λ lifetimes outlive.
    subst (ArePassesOf c.args.field.now) (sym c.deref_mut.ensures.value) (seats-belong c.args.field.now c.args.passes.now.items c.requires.seats)

pub returns-clause-come : goal.returns-clause-come
returns-clause-come g c =
    let field = c.args.field.now in
    let old : List PassValue = c.args.passes.now.items in
    let new : List PassValue = c.parked.new.passes in
    let brought : AreBrought field c.args.last old new = subst (λ (ps : List PassValue). AreBrought field c.args.last ps new) c.deref_mut.ensures.value c.parked.ensures.brought in
    let long : length new ≡ c.args.passes.now.len = c.parked.ensures.brought.one_each ∙ c.deref_mut.ensures.len in
    rw (with_items_is c.args.passes.now new long) (brought-come field c.args.last old new c.requires.last c.requires.seats brought)

pub returns-clause-told : goal.returns-clause-told
returns-clause-told g c =
    let held : ℕ → ℕ → Type 0 = g.W.Observer.told_held c.args.observer.now (cut_run c.args.field.now.terms.setup.now) in
    let freed : ℕ → ℕ → Type 0 = g.W.Observer.told_freed c.args.observer.now (cut_run c.args.field.now.terms.setup.now) in
    let old : List PassValue = c.args.passes.now.items in
    let new : List PassValue = c.parked.new.passes in
    let told : ArePassesTold held freed old new = subst (λ (ps : List PassValue). ArePassesTold held freed ps new) c.deref_mut.ensures.value c.parked.ensures.told in
    let long : length new ≡ c.args.passes.now.len = c.parked.ensures.brought.one_each ∙ c.deref_mut.ensures.len in
    rw (with_items_is c.args.passes.now new long) told

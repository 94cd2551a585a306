use Rattle.std.specs.Prelude.{map, nat_lt}
use Rattle.std.proofs.Common.{◌≡◌, ℕ, true, length, ap, subst, sym, ◌∙◌, arith}
use Rattle.std.proofs.lemmas.Bool.Decides.{nat_tests}
use Rattle.std.proofs.lemmas.List.{with_items_is}
use Rattle.region_body.specs.Pausing.{AreIdle}
use Rattle.cell_sweep.specs.Waiting.{waited}
use Rattle.cell_sweep.proofs.Waits.{unowed, waited-none}
use Rattle.region_body.proofs.Stays.{sound-settled}
use Rattle.region_body.proofs.placed.PlacedRows.look.Goals.{After-deref-4}
use Rattle.region_body.proofs.placed.PlacedRows.look.Goals as goal

none-owed : (c : After-deref-4) → c.self.inside.pause.owed ≡ 0
none-owed c = ap (λ rows. rows.pause.owed) c.self.view_is ∙ c.requires.none_owed

states-are : (c : After-deref-4) → c.deref.result.now ≡ c.args.self.now.states
states-are c = c.deref.ensures.value ∙ unowed c.self.inside.pause.owed c.self.inside.states.items c.args.self.now.states (ap (λ rows. rows.states) c.self.view_is) (none-owed c)

links-are : (c : After-deref-4) → c.deref-3.result.now ≡ c.args.self.now.links
links-are c = c.deref-3.ensures.value ∙ ap (λ rows. rows.links) c.self.view_is

speeds-are : (c : After-deref-4) → c.deref-2.result.now ≡ c.args.self.now.speeds
speeds-are c = c.deref-2.ensures.value ∙ ap (λ rows. rows.speeds) c.self.view_is

until-is : (c : After-deref-4) → c.self.inside.speeds_until ≡ c.args.self.now.speeds_until
until-is c = ap (λ rows. rows.speeds_until) c.self.view_is

connectors-are : (c : After-deref-4) → c.deref-4.result.now ≡ c.args.self.now.connectors
connectors-are c = c.deref-4.ensures.value ∙ ap (λ rows. rows.connectors) c.self.view_is

pub of-self-inside-requires-clause-sound : goal.of-self-inside-requires-clause-sound
of-self-inside-requires-clause-sound c =
    rw c.deref.ensures.value
    (sound-settled c.self.inside.constants.items c.self.inside.states.items c.self.inside.before.items
    (rw (ap (λ k. map (waited k) c.self.inside.states.items) (none-owed c) ∙ waited-none c.self.inside.states.items) at c.self.invariant))

pub of-self-inside-requires-clause-there : goal.of-self-inside-requires-clause-there
of-self-inside-requires-clause-there c = rw (states-are c, links-are c) c.requires.there

pub of-self-inside-requires-clause-cells : goal.of-self-inside-requires-clause-cells
of-self-inside-requires-clause-cells c = rw (states-are c, connectors-are c) c.requires.cells

pub returns-clause-idle : goal.returns-clause-idle
returns-clause-idle c = λ s before.
    let e : After-deref-4 = (goal.at.returns-clause-idle c).After-deref-4 in
    let until : ℕ = c.of-self-inside.result.until in
    let lasts : nat_lt 0 until ≡ true = grind (arith, nat_tests, before) in
    let same : c.note_seen.new.seen ≡ c.args.put.now = c.note_seen.ensures.same lasts in
    let long : length c.note_seen.new.seen ≡ c.self.inside.seen.len = c.note_seen.auto.seen ∙ c.deref_mut.ensures.len in
    subst (λ seen. AreIdle c.args.self.now.states c.args.self.now.speeds c.args.self.now.speeds_until c.args.self.now.links c.args.self.now.connectors seen until)
    (sym (with_items_is c.self.inside.seen c.note_seen.new.seen long ∙ same))
    ((rw (states-are e, speeds-are e, until-is e, links-are e, connectors-are e) at c.of-self-inside.ensures.idle) s before)

use Rattle.std.proofs.Common.{◌≡◌, ap, ◌∙◌, length, arith}
use Rattle.std.proofs.lemmas.List.{with_items_is}
use Rattle.cell_sweep.specs.CellStates.{cell_state_at}
use Rattle.cell_sweep.proofs.Waits.{unowed}
use Rattle.region_body.proofs.placed.PlacedRows.note_first.Goals as goal

pub returns-then-self-eq0-clause-before : goal.returns-then-self-eq0-clause-before
returns-then-self-eq0-clause-before c = λ p within.
    let inside = c.self.inside in
    let states : c.deref.result.now ≡ c.args.self.now.states =
    c.deref.ensures.value ∙ unowed inside.pause.owed inside.states.items c.args.self.now.states (ap (λ rows. rows.states) c.self.view_is) c.if-self-eq0.true in
    rw (with_items_is inside.before c.note_held.new.before (c.note_held.auto.before ∙ c.deref_mut.ensures.len))
    (c.note_held.ensures p (omega (arith, within, ap length states)) ∙ ap (λ list. (cell_state_at list p).n) states)

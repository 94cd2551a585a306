use Rattle.std.specs.Prelude.{map}
use Rattle.std.proofs.Common.{◌≡◌, ◌+◌, ℕ, List, sym, ap, ◌∙◌}
use Rattle.region_body.specs.Placed.{PlacedCells}
use Rattle.cell_sweep.specs.Waiting.{waited}
use Rattle.cell_sweep.proofs.Waits.{waited-more}
use Rattle.region_body.proofs.Stays.{settled-waits}
use Rattle.region_body.proofs.placed.PlacedRows.wait.Goals as goal

pub invariant_of-self : goal.invariant_of-self
invariant_of-self c =
    let inside = c.self.inside in
    let old = c.args.self.now in
    let is = c.note_first.ensures.only_before in
    let states : map (waited inside.pause.owed) inside.states.items ≡ old.states =
    ap (λ rows. rows.states) c.self.view_is ∙ ap (λ rows. rows.states) is in
    let constants : inside.constants.items ≡ old.constants = ap (λ rows. rows.constants) c.self.view_is ∙ ap (λ rows. rows.constants) is in
    rw (← waited-more inside.pause.owed inside.states.items)
    (settled-waits inside.constants.items (map (waited inside.pause.owed) inside.states.items) inside.before.items c.self.invariant
    (rw (constants, states) c.requires.sums))

pub returns-clause-waits : goal.returns-clause-waits
returns-clause-waits c =
    let inside = c.self.inside in
    let more : PlacedCells → PlacedCells = λ rows.
    record rows { states = map (waited 1) rows.states; pause = record rows.pause { owed = rows.pause.owed + 1 } } in
    rw (← waited-more inside.pause.owed inside.states.items)
    (ap more (c.self.view_is ∙ c.note_first.ensures.only_before)
    ∙ ap (λ (before : List ℕ). record (more c.args.self.now) { before = before }) (sym (ap (λ rows. rows.before) c.self.view_is)))

use Rattle.std.specs.Prelude.{map}
use Rattle.std.specs.Vec.{with_items}
use Rattle.std.proofs.Common.{◌≡◌, ap, ◌∙◌}
use Rattle.std.proofs.lemmas.List.{with_items_is}
use Rattle.region_body.specs.Placed.{PlacedCells}
use Rattle.cell_sweep.specs.Waiting.{waited}
use Rattle.cell_sweep.proofs.Waits.{waited-none}
use Rattle.region_body.proofs.placed.PlacedRows.count_owed.Goals.{After-wait_all}
use Rattle.region_body.proofs.placed.PlacedRows.count_owed.Goals as goal

states-are : (c : After-wait_all) →
    map (waited 0) (with_items c.self.inside.states c.wait_all.new.states).items ≡ map (waited c.self.inside.pause.owed) c.self.inside.states.items
states-are c =
    waited-none (with_items c.self.inside.states c.wait_all.new.states).items
    ∙ with_items_is c.self.inside.states c.wait_all.new.states (c.wait_all.auto.states ∙ c.deref_mut.ensures.len)
    ∙ c.wait_all.ensures ∙ ap (map (waited c.self.inside.pause.owed)) c.deref_mut.ensures.value

pub invariant_of-self : goal.invariant_of-self
invariant_of-self c = rw (states-are (goal.at.invariant_of-self c).After-wait_all) c.self.invariant

pub returns-then-self-gt0 : goal.returns-then-self-gt0
returns-then-self-gt0 c =
    let none : PlacedCells → PlacedCells = λ rows. record rows { pause = record rows.pause { owed = 0 } } in
    rw (states-are (goal.at.returns-then-self-gt0 c).After-wait_all) (ap none c.self.view_is)

use Rattle.std.proofs.Common.{◌≡◌, length, map, arith, subst, sym, ap}
use Rattle.std.proofs.lemmas.List.{ext_get_or, length-map}
use Rattle.network_file.specs.Sound.{IsNetwork}
use Rattle.flow_model.specs.Rows.{empty_row}
use Rattle.flow_model.specs.State.{state_at}
use Rattle.flow_model.proofs.States.{first_row, state_at-in_bounds, AreInBounds-KeepsRooms}
use Rattle.flow_model.proofs.step.first_rows.Goals as goal

pub returns-clause-state : goal.returns-clause-state
unfolding state_at
returns-clause-state c =
    let few : length c.args.net.now.cells ≡ length c.net.inside.cells.items = ap (λ net. length net.cells) (sym c.net.view_is) in
    ext_get_or empty_row c.loop-i.rows (map first_row c.args.net.now.cells)
    (omega (arith, c.requires.one_each, c.loop-i.auto.rows, length-map c.args.net.now.cells first_row))
    (λ i has. c.loop-i.invariant i (omega (arith, few, c.net.inside.cells.ok.0, c.requires.one_each, c.loop-i.auto.rows)))

pub returns-clause-bounds : goal.returns-clause-bounds
returns-clause-bounds c = λ t within.
    state_at-in_bounds c.args.net.now (subst IsNetwork c.net.view_is c.net.invariant) t within

pub returns-clause-rooms : goal.returns-clause-rooms
returns-clause-rooms c = λ t within.
    AreInBounds-KeepsRooms c.args.net.now t (state_at c.args.net.now t) (returns-clause-bounds c t within)

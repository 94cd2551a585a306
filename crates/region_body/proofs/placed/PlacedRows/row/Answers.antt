use Rattle.std.specs.Prelude.{false, map}
use Rattle.std.proofs.Common.{◌≡◌, ◌<◌, List, length, sym, ap, ◌∙◌, arith}
use Rattle.std.proofs.lemmas.List.{get_or_read}
use Rattle.flow_model.specs.State.{row_at}
use Rattle.cell_sweep.specs.CellStates.{no_state, cell_state_at}
use Rattle.cell_sweep.specs.declared.cell_state.CellState.{CellState}
use Rattle.region_body.specs.Rows.{constants_at, row_of, rows_of}
use Rattle.cell_sweep.specs.Waiting.{waited}
use Rattle.region_body.specs.declared.cell_constants.CellConstants.{CellConstants}
use Rattle.cell_sweep.proofs.Waits.{length-waited, cell_state_at-waited}
use Rattle.region_body.proofs.Whole.{row_at-rows_of}
use Rattle.region_body.proofs.placed.PlacedRows.row.Goals.{After-state-1}
use Rattle.region_body.proofs.placed.PlacedRows.row.Goals as goal

abbrev no_constants : CellConstants
no_constants = record { first = 0; is_exit = false }

now : After-state-1 → List CellState
now c = map (waited c.self.inside.pause.owed) c.self.inside.states.items

within : (c : After-state-1) → c.args.i < length c.self.inside.constants.items
within c = rw (ap (λ v. length v.constants) c.self.view_is) c.requires

there : (c : After-state-1) → c.args.i < length c.self.inside.states.items
there c = omega (arith, within c, c.self.invariant.one_each, length-waited c.self.inside.pause.owed c.self.inside.states.items)

constants-are : (c : After-state-1) → c.index-2.result.now ≡ constants_at c.self.inside.constants.items c.args.i
constants-are c = get_or_read c.self.inside.constants.items c.args.i c.index-2.result.now (within c) c.index-2.ensures no_constants

state-is : (c : After-state-1) → c.waited-state.result ≡ cell_state_at (map (waited c.self.inside.pause.owed) c.self.inside.states.items) c.args.i
state-is c =
    c.waited-state.ensures
    ∙ ap (waited c.self.inside.pause.owed) (get_or_read c.self.inside.states.items c.args.i c.index.result.now (there c) c.index.ensures no_state)
    ∙ sym (cell_state_at-waited c.self.inside.pause.owed c.self.inside.states.items c.args.i (there c))

pub row-requires : goal.row-requires
row-requires c = rw (constants-are c, state-is c) (c.self.invariant.each c.args.i (within c))

pub returns : goal.returns
returns c =
    let e : After-state-1 = (goal.at.returns c).After-state-1 in
    let constants = c.self.inside.constants.items in
    let states = map (waited c.self.inside.pause.owed) c.self.inside.states.items in
    c.row.ensures ∙ ap (λ one. row_of one c.waited-state.result) (constants-are e) ∙ ap (row_of (constants_at constants c.args.i)) (state-is e)
    ∙ sym (row_at-rows_of constants states c.args.i (within e))
    ∙ ap (λ v. row_at (rows_of v.constants v.states) c.args.i) c.self.view_is

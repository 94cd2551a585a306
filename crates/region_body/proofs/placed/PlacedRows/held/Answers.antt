use Rattle.std.specs.Prelude.{map}
use Rattle.std.proofs.Common.{◌<◌, ℕ, List, length, sym, ap, ◌∙◌, arith}
use Rattle.std.proofs.lemmas.List.{get_or_read}
use Rattle.flow_model.specs.State.{row_at}
use Rattle.cell_sweep.specs.CellStates.{no_state}
use Rattle.cell_sweep.specs.declared.cell_state.CellState.{CellState}
use Rattle.region_body.specs.Rows.{rows_of}
use Rattle.cell_sweep.specs.Waiting.{waited}
use Rattle.cell_sweep.proofs.Waits.{length-waited, n-waited}
use Rattle.region_body.proofs.Whole.{row_at-rows_of}
use Rattle.region_body.proofs.placed.PlacedRows.held.Goals as goal

pub returns : goal.returns
returns c =
    let constants = c.self.inside.constants.items in
    let states = c.self.inside.states.items in
    let i : ℕ = c.args.i in
    let within : i < length constants = rw (ap (λ v. length v.constants) c.self.view_is) c.requires in
    let now : List CellState = map (waited c.self.inside.pause.owed) states in
    let there : i < length states = omega (arith, within, c.self.invariant.one_each, length-waited c.self.inside.pause.owed states) in
    ap (λ state. state.n) (get_or_read states i c.index.result.now there c.index.ensures no_state)
    ∙ sym (ap (λ row. row.n) (row_at-rows_of constants now i within) ∙ n-waited c.self.inside.pause.owed states i)
    ∙ ap (λ v. (row_at (rows_of v.constants v.states) i).n) c.self.view_is

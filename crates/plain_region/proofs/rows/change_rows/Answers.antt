use Rattle.std.specs.Prelude.{slice_index}
use Rattle.std.proofs.Common.{ℕ, length, arith, sym, zero-add, ◌∙◌}
use Rattle.std.proofs.lemmas.List.{ext_get_or}
use Rattle.std.proofs.lemmas.List.FromFn.{get_or-map-range_with_len, length-map-range_with_len}
use Rattle.flow_model.specs.Rows.{empty_row, moved_row}
use Rattle.flow_model.specs.State.{row_at}
use Rattle.flow_model.specs.declared.row.Row.{Row}
use Rattle.plain_region.specs.Carrying.{change_at, enters_in_all, rows_changed}
use Rattle.plain_region.proofs.rows.change_rows.Goals as goal

pub returns : goal.returns
unfolding rows_changed
returns c =
    let cell : ℕ → ℕ = slice_index c.args.cells.now in
    let row : ℕ → Row = λ p. moved_row c.args.net.now (cell p) (row_at c.args.rows.now p) (enters_in_all c.args.net.now c.args.t (cell p) (change_at c.args.changes.now p)) (change_at c.args.changes.now p).leaves in
    ext_get_or empty_row c.loop-p.next (rows_changed c.args.net.now c.args.t c.args.cells.now c.args.rows.now c.args.changes.now)
    (c.loop-p.invariant.0 ∙ sym (length-map-range_with_len row 0 (length c.args.cells.now)))
    (λ p within. c.loop-p.invariant.1 p (omega (arith, within, c.loop-p.invariant.0)) ∙
    sym (get_or-map-range_with_len row 0 (length c.args.cells.now) p p empty_row (omega (arith, within, c.loop-p.invariant.0)) (zero-add p)))

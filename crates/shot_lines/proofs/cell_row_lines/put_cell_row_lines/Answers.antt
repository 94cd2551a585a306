use Rattle.std.proofs.Common.{◌≡◌, length, rules, append_assoc, arith, refl}
use Rattle.std.proofs.Transfers.{starts_with_of_append, starts_with_trans}
use Rattle.network_file.proofs.NetworkFacts.{name_at-read}
use Rattle.line_fields.proofs.Lines.{lines_of-more, lines_of-none}
use Rattle.shot_lines.proofs.cell_row_lines.put_cell_row_lines.Goals as goal

pub loop-i-init : goal.loop-i-init
loop-i-init c = rw lines_of-none (search rules)

pub loop-i-preserved : goal.loop-i-preserved
loop-i-preserved c =
    let name = name_at-read c.args.cells.now c.loop-i.i _ c.loop-i-test.true c.index-cells-i.is in
    rw (c.in_ok-put_cell_row_line.ensures.line, c.loop-i.invariant, lines_of-more, name) (simp append_assoc)

pub returns-in_err-put_cell_row_line-clause-kept : goal.returns-in_err-put_cell_row_line-clause-kept
returns-in_err-put_cell_row_line-clause-kept c =
    starts_with_trans _ _ _ c.in_err-put_cell_row_line.ensures.kept (starts_with_of_append _ _ _ c.loop-i.invariant)

pub returns-clause-kept : goal.returns-clause-kept
returns-clause-kept c = starts_with_of_append _ _ _ c.loop-i.invariant

pub returns-clause-lines : goal.returns-clause-lines
returns-clause-lines c =
    let all : c.loop-i.i ≡ length c.args.cells.now = omega arith in
    rw (c.loop-i.invariant, all) refl

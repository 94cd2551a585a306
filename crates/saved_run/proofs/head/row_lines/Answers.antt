use Rattle.std.proofs.Common.{◌-◌, ◌+◌, arith, length, ap, sym, ◌∙◌}
use Rattle.saved_run.specs.Reading.{row_lines_at}
use Rattle.saved_run.proofs.Turns.{row_lines_at-done, row_lines_at-end, row_lines_at-more, row_lines_at-no_line, with_before}
use Rattle.saved_run.proofs.head.row_lines.Goals as goal

pub returns-in-Some : goal.returns-in-Some
returns-in-Some c =
    c.loop-done.invariant
    ∙ row_lines_at-end (length c.args.text.now - c.loop-done._done) (length c.args.text.now - (c.loop-done._done + 1)) c.loop-done.left.now c.in-Some.network.now c.loop-done.rows.items (omega (arith, c.loop-done-test.true)) c.in-Some.ensures

pub returns-in_default-row_line : goal.returns-in_default-row_line
returns-in_default-row_line c =
    c.loop-done.invariant
    ∙ row_lines_at-no_line (length c.args.text.now - c.loop-done._done) (length c.args.text.now - (c.loop-done._done + 1)) c.loop-done.left.now c.loop-done.rows.items (omega (arith, c.loop-done-test.true)) c.in_default.ensures c.in_default-row_line.ensures

pub loop-done-preserved : goal.loop-done-preserved
loop-done-preserved c =
    let left = length c.args.text.now - (c.loop-done._done + 1) in
    c.loop-done.invariant
    ∙ row_lines_at-more (length c.args.text.now - c.loop-done._done) left c.loop-done.left.now c.in-Some-row_line.rest.now c.loop-done.rows.items c.in-Some-row_line.row (omega (arith, c.loop-done-test.true)) c.in_default.ensures c.in-Some-row_line.ensures
    ∙ ap (λ items. with_before items (row_lines_at left c.in-Some-row_line.rest.now)) (sym c.in_ok-push.ensures.items)

pub returns : goal.returns
returns c = c.loop-done.invariant ∙ row_lines_at-done (length c.args.text.now - c.loop-done._done) c.loop-done.left.now c.loop-done.rows.items (omega (arith, c.loop-done-test.false))

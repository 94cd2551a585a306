use Rattle.std.proofs.Common.{◌-◌, ◌+◌, arith, ap, sym, ◌∙◌}
use Rattle.saved_run.specs.Reading.{step_lines_at}
use Rattle.saved_run.proofs.Turns.{step_lines_at-done, step_lines_at-more, step_lines_at-no_line, with_before}
use Rattle.saved_run.proofs.head.step_lines.Goals as goal

pub returns-in_default : goal.returns-in_default
returns-in_default c =
    c.loop-done.invariant ∙ step_lines_at-no_line (c.args.count - c.loop-done._done) (c.args.count - (c.loop-done._done + 1)) c.loop-done.left.now c.loop-done.steps.items (omega (arith, c.loop-done-test.true)) c.in_default.ensures

pub loop-done-preserved : goal.loop-done-preserved
loop-done-preserved c =
    let left = c.args.count - (c.loop-done._done + 1) in
    c.loop-done.invariant
    ∙ step_lines_at-more (c.args.count - c.loop-done._done) left c.loop-done.left.now c.in-Some.rest.now c.loop-done.steps.items c.in-Some.step (omega (arith, c.loop-done-test.true)) c.in-Some.ensures
    ∙ ap (λ items. with_before items (step_lines_at left c.in-Some.rest.now)) (sym c.in_ok-push.ensures.items)

pub returns : goal.returns
returns c = c.loop-done.invariant ∙ step_lines_at-done (c.args.count - c.loop-done._done) c.loop-done.left.now c.loop-done.steps.items (omega (arith, c.loop-done-test.false))

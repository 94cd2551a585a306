use Rattle.std.proofs.Common.{sym, ap, ◌∙◌}
use Rattle.step_plan.specs.Green.{green_at, is_green_by}
use Rattle.timelines.specs.Cells.{green_by}
use Rattle.timelines.proofs.cell_timeline.signal_by.Goals as goal

pub returns-then-sends : goal.returns-then-sends
unfolding green_at
returns-then-sends c = λ t.
    ap (λ signal. is_green_by signal t) c.signal.ensures ∙ ap (λ sends. green_by c.args.plan.now c.args.cell sends t) (sym c.if-sends.true)

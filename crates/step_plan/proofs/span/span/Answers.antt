use Rattle.step_plan.proofs.Changes.{in_force-nil, in_force_span, in_range-none}
use Rattle.step_plan.proofs.span.span.Goals as goal
use Rattle.step_plan.proofs.span.span.Goals.{then-from-to+in_ok-push+in_ok-push-2, else-from-to}

pub returns-clause-in_force : goal.returns-clause-in_force
returns-clause-in_force g c t = elim c.if-from-to.branch [
  | then-from-to+in_ok-push+in_ok-push-2 w ↦
      rw (w.changes-is, w.in_ok-push-2.ensures.items, w.in_ok-push.ensures.items, c.new-changes.ensures.items, w.none.ensures, w.from.ensures, w.from-then-from-to.ensures)
      (in_force_span g.T.Join.none c.args.value c.args.from c.args.to t w.if-from-to.true)
  | else-from-to w ↦
      rw (w.changes-is, c.new-changes.ensures.items, in_range-none c.args.from c.args.to t w.if-from-to.false)
      (in_force-nil g.T.Join.none t)
]

use Rattle.std.proofs.Common.{arith, ap}
use Rattle.std.proofs.lemmas.List.{get_or_default}
use Rattle.step_plan.proofs.Merging.{IsTaken-here, IsTaken-past}
use Rattle.step_plan.proofs.merge.advance.Goals as goal
use Rattle.step_plan.proofs.merge.advance.Goals.{else-at-changes-via-then-at-changes+else-changes-at, else-at-changes-via-else-at-changes}

pub returns-then-changes-at : goal.returns-then-changes-at
returns-then-changes-at g c =
    let read = get_or_default c.args.changes.now c.args.at c.index-changes-at.result c.index-changes-at-then-changes-at.result c.if-at-changes.true in
    IsTaken-here c.args.changes.now c.args.at c.args.value c.args.step c.index-changes-at-then-changes-at.result c.requires.rising
    c.if-at-changes.true (rw read at c.if-changes-at.true)

pub returns-else-at-changes : goal.returns-else-at-changes
returns-else-at-changes g c =
    IsTaken-past c.args.changes.now c.args.at c.args.value c.args.step c.requires.rising c.requires.within
    (λ d some. let from = c.requires.left d some in elim c.else-at-changes.branch [
      | else-at-changes-via-then-at-changes+else-changes-at w ↦
          let other = w.if-changes-at.false in
          let same = ap (λ x. x.step) (get_or_default c.args.changes.now c.args.at w.index-changes-at.result d some) in
          omega arith
      | else-at-changes-via-else-at-changes w ↦ let none = w.if-at-changes.false in absurd (omega arith)
    ])

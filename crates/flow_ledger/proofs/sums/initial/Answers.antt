use Rattle.std.proofs.Common.{ap, ◌∙◌}
use Rattle.std.proofs.lemmas.List.{take_all}
use Rattle.flow_ledger.specs.Balances.{initial_of}
use Rattle.flow_ledger.proofs.sums.initial.Goals as goal

pub returns-clause-sum : goal.returns-clause-sum
unfolding initial_of
returns-clause-sum c =
    let whole = take_all c.loop-cell.cell-index c.deref-cell-items.result.now c.loop-cell-test.false in
    let all = rw (whole, c.deref-cell-items.ensures.value) at c.loop-cell.invariant.0 in
    all ∙ ap initial_of c.net.view_is

use Rattle.std.proofs.lemmas.List.{take_all}
use Rattle.flow_model.specs.State.{delay_of}
use Rattle.flow_ledger.proofs.delay.total_delay.Goals as goal

pub returns-clause-sum : goal.returns-clause-sum
unfolding delay_of
returns-clause-sum c =
    let whole = take_all c.loop-row.row-index c.args.rows.now c.loop-row-test.false in
    rw whole at c.loop-row.invariant.0

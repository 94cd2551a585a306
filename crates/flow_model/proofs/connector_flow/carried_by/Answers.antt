use Rattle.std.proofs.Common.{arith}
use Rattle.flow_model.proofs.Connectors.{some_shares}
use Rattle.flow_model.proofs.connector_flow.carried_by.Goals as goal

pub of_diverge-requires-clause-first : goal.of_diverge-requires-clause-first
of_diverge-requires-clause-first c =
    let sound = rw c.in-Diverge.is at c.requires.sound in
    let first = (sound.weights 0 0 (omega arith)).0 in
    let second = (sound.weights 1 0 (omega arith)).0 in
    rw c.shares-b1.ensures ((some_shares _ c.args.t c.in-Diverge.up c.in-Diverge.b1 c.in-Diverge.b2 c.net.invariant first second).0)

pub of_diverge-requires-clause-second : goal.of_diverge-requires-clause-second
of_diverge-requires-clause-second c =
    let sound = rw c.in-Diverge.is at c.requires.sound in
    let first = (sound.weights 0 0 (omega arith)).0 in
    let second = (sound.weights 1 0 (omega arith)).0 in
    rw c.shares-b1.ensures ((some_shares _ c.args.t c.in-Diverge.up c.in-Diverge.b1 c.in-Diverge.b2 c.net.invariant first second).1)

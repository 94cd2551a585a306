use Rattle.std.proofs.Common.{◌+◌, ◌++◌, ◌∷◌, [], arith, subst, sym}
use Rattle.workerless_modes.proofs.Choosing.{AreRead, all-accepted, all-networks, fault-read, length-read, more-read, none-read}
use Rattle.workerless_modes.proofs.choose_mode.networks.Goals as goal

pub loop-p-init : goal.loop-p-init
loop-p-init c = rw c.new-nets.ensures.items (none-read c.args.pieces.now)

pub loop-p-preserved : goal.loop-p-preserved
loop-p-preserved c =
    subst (AreRead c.args.pieces.now (c.loop-p.p + 1)) {x = c.loop-p.nets.items ++ c.in-Ok.net ∷ []} (sym c.in_ok-put_network-in-Ok.ensures)
    (more-read c.args.pieces.now c.loop-p.p c.loop-p.nets.items c.in-Ok.net (omega (arith, c.loop-p-test.true, c.count-count.ensures.count)) c.loop-p.invariant c.in-Ok.ensures.network)

pub returns-in-Err-clause-refusal : goal.returns-in-Err-clause-refusal
returns-in-Err-clause-refusal c =
    rw (fault-read c.args.pieces.now c.loop-p.p c.loop-p.nets.items (omega (arith, c.loop-p-test.true, c.count-count.ensures.count)) c.loop-p.invariant)
    (c.in-Err.ensures.refusal _)

pub returns-clause-networks : goal.returns-clause-networks
returns-clause-networks c = all-networks c.args.pieces.now c.loop-p.p c.loop-p.nets.items (omega (arith, c.loop-p-test.false, c.count-count.ensures.count)) c.loop-p.invariant

pub returns-clause-one_each : goal.returns-clause-one_each
returns-clause-one_each c =
    length-read c.args.pieces.now c.loop-p.nets.items (all-networks c.args.pieces.now c.loop-p.p c.loop-p.nets.items (omega (arith, c.loop-p-test.false, c.count-count.ensures.count)) c.loop-p.invariant)

pub returns-clause-accepted : goal.returns-clause-accepted
returns-clause-accepted c = all-accepted c.args.pieces.now c.loop-p.p c.loop-p.nets.items (omega (arith, c.loop-p-test.false, c.count-count.ensures.count)) c.loop-p.invariant

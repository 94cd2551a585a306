use Rattle.std.proofs.Common.{◌≤◌, arith, subst}
use Rattle.network_file.specs.Sound.{IsNetwork}
use Rattle.flow_model.specs.State.{delay_of}
use Rattle.monotone_laws.proofs.AtOneStep.{delay-no_more}
use Rattle.monotone_laws.proofs.differences.delay_saved.Goals as goal

less : (c : goal.After-total_delay-2) → delay_of c.args.second.now ≤ delay_of c.args.first.now
less c =
    delay-no_more c.args.one.now c.args.two.now c.args.first.now c.args.second.now (subst IsNetwork c.one.view_is c.one.invariant)
    (subst IsNetwork c.two.view_is c.two.invariant) c.requires.links c.requires.eased c.requires.demands c.requires.rows

pub overflow_sub-result : goal.overflow_sub-result
overflow_sub-result c = omega (arith, less c)

pub returns : goal.returns
returns c = record { saved = omega (arith, less c) }

use Rattle.std.proofs.Common.{[], ◌*◌, ◌/◌, arith}
use Rattle.cell_sweep.proofs.AtSpeeds.{free-none}
use Rattle.cell_sweep.proofs.Swept.{swept-none}
use Rattle.cell_sweep.proofs.sweep_free.sweep_free.Goals as goal

pub sweep_fours-flow-requires-clause-swept : goal.sweep_fours-flow-requires-clause-swept
sweep_fours-flow-requires-clause-swept c =
    (c.args.states.now, [], swept-none c.args.states.now [] c.args.before.now c.requires.sound (omega (arith, c.requires.there)), free-none 0 (4 * (c.args.last / 4)))

pub loop-p-init : goal.loop-p-init
loop-p-init c =
    c.sweep_fours-flow.ensures c.args.states.now [] (swept-none c.args.states.now [] c.args.before.now c.requires.sound (omega (arith, c.requires.there)))
    (free-none 0 (4 * (c.args.last / 4)))

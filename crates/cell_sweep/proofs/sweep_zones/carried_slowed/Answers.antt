use Rattle.cell_sweep.proofs.AtSpeeds.{carried-reaching}
use Rattle.cell_sweep.proofs.sweep_zones.carried_slowed.Goals as goal

pub returns-clause-flow : goal.returns-clause-flow
returns-clause-flow c =
    carried-reaching c.args.state.now c.args.next.now c.args.speed c.reaching.result c.carried.result c.reaching.ensures.speed c.reaching.ensures.held
    c.carried.ensures.flow

use Rattle.std.specs.Prelude.{min}
use Rattle.std.proofs.Common.{◌≡◌, ◌+◌, sym, ap, ◌∙◌, arith}
use Rattle.step_plan.specs.Speeds.{arriving}
use Rattle.connector_flow.specs.Space.{let_in}
use Rattle.cell_sweep.specs.CellStates.{carried, cell_state_at}
use Rattle.cell_sweep.specs.Speeds.{at_speeds, ratio_at, slowed_state}
use Rattle.cell_sweep.proofs.AtSpeeds.{carried-reaching, length-at_speeds, link_out-at_speeds}
use Rattle.cell_sweep.proofs.Neighbours.{link_out-last}
use Rattle.cell_sweep.proofs.movement.flow_from.Goals as goal

pub returns-then-p-states : goal.returns-then-p-states
returns-then-p-states c =
    let states = c.args.states.now in
    let p = c.args.p in
    carried-reaching (cell_state_at states p) (cell_state_at states (p + 1)) (ratio_at c.args.speeds.now p) c.reaching.result c.carried.result
    c.reaching.ensures.speed c.reaching.ensures.held c.carried.ensures.flow
    ∙ sym (link_out-at_speeds states c.args.speeds.now p c.requires.there)

pub returns-else-p-states : goal.returns-else-p-states
returns-else-p-states c =
    let long = length-at_speeds c.args.states.now c.args.speeds.now in
    sym (link_out-last (at_speeds c.args.states.now c.args.speeds.now) c.args.p (omega arith))

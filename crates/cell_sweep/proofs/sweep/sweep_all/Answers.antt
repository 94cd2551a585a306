use Rattle.std.proofs.Common.{◌≡◌, ℕ, ◌∙◌, arith}
use Rattle.cell_sweep.specs.CellStates.{no_state, cell_state_at, swept}
use Rattle.cell_sweep.specs.Speeds.{at_speeds}
use Rattle.cell_sweep.proofs.AtSpeeds.{length-at_speeds}
use Rattle.cell_sweep.proofs.Neighbours.{swept-last}
use Rattle.cell_sweep.proofs.Sets.{done_more}
use Rattle.cell_sweep.proofs.sweep.sweep_all.Goals as goal

pub returns-clause-states : goal.returns-clause-states
returns-clause-states c = λ k below.
    let last : ℕ = c.in-Some.last in
    let first = c.args.states.now in
    let sending = at_speeds first c.args.speeds.now in
    let states = c.sweep_to-enters.new.states in
    let done = c.sweep_to-enters.ensures in
    let long = length-at_speeds first c.args.speeds.now in
    let here : cell_state_at states last ≡ cell_state_at first last = done.rest last (omega arith) in
    let is : c.step.new.self ≡ swept first sending last =
    c.step.ensures ∙ swept-last first sending (cell_state_at states last) last c.sweep_to-enters.result (omega (arith, long)) here done.carried in
    done_more (swept first sending) states last c.step.new.self no_state (omega (arith, done.long)) is done.done k (omega arith)

use Rattle.std.proofs.Common.{◌≡◌, ℕ, ◌+◌, sym, ap, ◌∙◌, arith}
use Rattle.cell_sweep.specs.CellStates.{carried, link_out, cell_state_at}
use Rattle.cell_sweep.specs.Speeds.{at_speeds, ratio_at}
use Rattle.cell_sweep.proofs.AtSpeeds.{carried-free, link_out-at_speeds}
use Rattle.cell_sweep.proofs.Swept.{swept-one}
use Rattle.cell_sweep.proofs.sweep_free.sweep_one.Goals as goal

pub returns : goal.returns
returns c = λ first speeds held free.
    let p : ℕ = c.args.p in
    let states = c.args.states.now in
    let there = c.requires.there in
    let here = held.rest p (omega arith) in
    let next = held.rest (p + 1) (omega arith) in
    let out : c.carried_from-leaves.result ≡ link_out (at_speeds first speeds) p =
    c.carried_from-leaves.ensures.flow ∙ ap (λ one. carried one (cell_state_at states (p + 1))) here ∙ ap (carried (cell_state_at first p)) next
    ∙ sym (carried-free (cell_state_at first p) (cell_state_at first (p + 1)) (ratio_at speeds p) free) ∙ sym (link_out-at_speeds first speeds p (omega (arith, there, held.long))) in
    swept-one first speeds p states c.args.before.now c.args.enters c.carried_from-leaves.result c.step.new.self held there c.requires.one_each out c.step.ensures
    c.carried_from-leaves.ensures.fits

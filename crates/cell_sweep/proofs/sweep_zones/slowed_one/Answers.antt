use Rattle.std.proofs.Common.{◌≡◌, ℕ, ◌+◌, sym, ap, ◌∙◌, arith}
use Rattle.std.proofs.lemmas.List.{get_or_default}
use Rattle.cell_sweep.specs.CellStates.{carried, link_out, cell_state_at}
use Rattle.cell_sweep.specs.Speeds.{at_speeds, slowed_state, ratio_at}
use Rattle.cell_sweep.proofs.AtSpeeds.{link_out-at_speeds}
use Rattle.cell_sweep.proofs.Swept.{swept-one}
use Rattle.cell_sweep.proofs.sweep_zones.slowed_one.Goals as goal

pub returns : goal.returns
returns c = λ first held.
    let p : ℕ = c.args.p in
    let states = c.args.states.now in
    let speeds = c.args.speeds.now in
    let there = c.requires.there in
    let here = held.rest p (omega arith) in
    let next = held.rest (p + 1) (omega arith) in
    let own : ratio_at speeds p ≡ c.index-speeds-p.result = get_or_default speeds p (1, 1) c.index-speeds-p.result (omega (arith, c.requires.known, there)) ∙ sym c.index-speeds-p.is in
    let out : c.carried_slowed-leaves.result ≡ link_out (at_speeds first speeds) p =
    c.carried_slowed-leaves.ensures.flow ∙ ap (λ speed. carried (slowed_state (cell_state_at states p) speed) (cell_state_at states (p + 1))) (sym own) ∙ ap (λ one. carried (slowed_state one (ratio_at speeds p)) (cell_state_at states (p + 1))) here
    ∙ ap (carried (slowed_state (cell_state_at first p) (ratio_at speeds p))) next ∙ sym (link_out-at_speeds first speeds p (omega (arith, there, held.long))) in
    swept-one first speeds p states c.args.before.now c.args.enters c.carried_slowed-leaves.result c.step.new.self held there c.requires.one_each out c.step.ensures
    c.carried_slowed-leaves.ensures.fits

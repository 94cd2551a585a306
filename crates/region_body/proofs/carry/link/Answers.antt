use Rattle.std.proofs.Common.{◌≡◌, ℕ, ap, ◌∙◌, arith}
use Rattle.cell_sweep.specs.CellStates.{cell_state_at, with_entered}
use Rattle.region_body.specs.Carrying.{brought, taken}
use Rattle.region_body.specs.CellRefs.{given_before, parts_at, ref_at}
use Rattle.region_body.proofs.MovedStates.{can-bring, can-take}
use Rattle.region_body.proofs.Ruled.{link-moves}
use Rattle.region_body.proofs.carry.link.Goals.{After-carried-flow}
use Rattle.region_body.proofs.carry.link.Goals as goal

moves : (c : After-carried-flow) (p : ℕ) →
    (taken c.args.t (given_before c.args.speeds.now c.args.before.now c.args.put.now) p c.args.connector.now ≡ parts_at (ref_at c.args.connector.now.cells 0) c.carried-flow.result.out1 p) ×
    (brought c.args.t (given_before c.args.speeds.now c.args.before.now c.args.put.now) p c.args.connector.now ≡ parts_at (ref_at c.args.connector.now.cells 1) c.carried-flow.result.in1 p)
moves c p =
    link-moves c.args.t (given_before c.args.speeds.now c.args.before.now c.args.put.now) p c.args.connector.now c.carried-flow.result c.requires.rule
    c.carried-flow.ensures

pub carried-flow-requires : goal.carried-flow-requires
carried-flow-requires c = rw (← c.requires.one_each) at c.requires.connector

pub take-requires-clause-can : goal.take-requires-clause-can
take-requires-clause-can c = λ p within.
    let is = moves (goal.at.take-requires-clause-can c).After-carried-flow p in
    let out = is.0 in
    can-take (cell_state_at c.args.states.now p) (parts_at (ref_at c.args.connector.now.cells 0) c.carried-flow.result.out1 p) _ _ (c.requires.can p within) (omega (arith, out))

pub bring-requires-clause-can : goal.bring-requires-clause-can
bring-requires-clause-can c = λ p within.
    let is = moves (goal.at.bring-requires-clause-can c).After-carried-flow p in
    let out = is.0 in
    let into = is.1 in
    let then_is = c.take.ensures p (omega arith) in
    let n = ap (λ one. one.n) then_is in
    let gone = ap (λ one. one.gone) then_is in
    can-bring (cell_state_at c.args.states.now p) (cell_state_at c.take.new.states p) (parts_at (ref_at c.args.connector.now.cells 1) c.carried-flow.result.in1 p) _ _ (omega (arith, n, into))
    (omega (arith, gone, out)) (c.requires.can p (omega arith))

pub returns : goal.returns
returns c = λ p within.
    let is = moves (goal.at.returns c).After-carried-flow p in
    rw (is.0, is.1) (
    c.bring.ensures p (omega arith) ∙ ap (λ one. with_entered one (parts_at (ref_at c.args.connector.now.cells 1) c.carried-flow.result.in1 p)) (c.take.ensures p (omega arith))
    )

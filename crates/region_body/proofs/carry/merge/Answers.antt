use Rattle.std.proofs.Common.{◌≡◌, ◌+◌, ℕ, ap, ◌∙◌, arith}
use Rattle.cell_sweep.specs.CellStates.{cell_state_at, with_entered, with_left}
use Rattle.region_body.specs.Carrying.{brought, taken}
use Rattle.region_body.specs.CellRefs.{given_before, parts_at, ref_at}
use Rattle.region_body.proofs.MovedStates.{can-bring, can-take, can-take-more, left-twice}
use Rattle.region_body.proofs.Ruled.{merge-moves}
use Rattle.region_body.proofs.carry.merge.Goals.{After-carried-flow}
use Rattle.region_body.proofs.carry.merge.Goals as goal

moves : (c : After-carried-flow) (p : ℕ) →
    (taken c.args.t (given_before c.args.speeds.now c.args.before.now c.args.put.now) p c.args.connector.now ≡
    parts_at (ref_at c.args.connector.now.cells 0) c.carried-flow.result.out1 p + parts_at (ref_at c.args.connector.now.cells 1) c.carried-flow.result.out2 p) ×
    (brought c.args.t (given_before c.args.speeds.now c.args.before.now c.args.put.now) p c.args.connector.now ≡ parts_at (ref_at c.args.connector.now.cells 2) c.carried-flow.result.in1 p)
moves c p =
    merge-moves c.args.t (given_before c.args.speeds.now c.args.before.now c.args.put.now) p c.args.connector.now c.carried-flow.result c.requires.rule
    c.carried-flow.ensures

pub carried-flow-requires : goal.carried-flow-requires
carried-flow-requires c = rw (← c.requires.one_each) at c.requires.connector

pub take-requires-clause-can : goal.take-requires-clause-can
take-requires-clause-can c = λ p within.
    let is = moves (goal.at.take-requires-clause-can c).After-carried-flow p in
    let out = is.0 in
    can-take (cell_state_at c.args.states.now p) (parts_at (ref_at c.args.connector.now.cells 0) c.carried-flow.result.out1 p) _ _ (c.requires.can p within) (omega (arith, out))

pub take-requires-2-clause-can : goal.take-requires-2-clause-can
take-requires-2-clause-can c = λ p within.
    let is = moves (goal.at.take-requires-2-clause-can c).After-carried-flow p in
    let out = is.0 in
    can-take-more (cell_state_at c.args.states.now p) (cell_state_at c.take.new.states p) (parts_at (ref_at c.args.connector.now.cells 0) c.carried-flow.result.out1 p)
    (parts_at (ref_at c.args.connector.now.cells 1) c.carried-flow.result.out2 p) _ _ (c.take.ensures p (omega arith)) (c.requires.can p (omega arith)) (omega (arith, out))

pub bring-requires-clause-can : goal.bring-requires-clause-can
bring-requires-clause-can c = λ p within.
    let is = moves (goal.at.bring-requires-clause-can c).After-carried-flow p in
    let out = is.0 in
    let into = is.1 in
    let first = c.take.ensures p (omega arith) in
    let second = c.take-2.ensures p (omega arith) in
    let n = ap (λ one. one.n) first in
    let gone = ap (λ one. one.gone) first in
    let n_second = ap (λ one. one.n) second in
    let gone_second = ap (λ one. one.gone) second in
    can-bring (cell_state_at c.args.states.now p) (cell_state_at c.take-2.new.states p) (parts_at (ref_at c.args.connector.now.cells 2) c.carried-flow.result.in1 p) _ _
    (omega (arith, n, n_second, into)) (omega (arith, gone, gone_second, out)) (c.requires.can p (omega arith))

pub returns : goal.returns
returns c = λ p within.
    let is = moves (goal.at.returns c).After-carried-flow p in
    let x : ℕ = parts_at (ref_at c.args.connector.now.cells 0) c.carried-flow.result.out1 p in
    let y : ℕ = parts_at (ref_at c.args.connector.now.cells 1) c.carried-flow.result.out2 p in
    let z : ℕ = parts_at (ref_at c.args.connector.now.cells 2) c.carried-flow.result.in1 p in
    rw (is.0, is.1) (
    c.bring.ensures p (omega arith) ∙ ap (λ one. with_entered one z) (c.take-2.ensures p (omega arith) ∙ ap (λ one. with_left one y) (c.take.ensures p (omega arith))
    ∙ left-twice (cell_state_at c.args.states.now p) x y)
    )

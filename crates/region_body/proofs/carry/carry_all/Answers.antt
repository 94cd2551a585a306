use Rattle.std.specs.Prelude.{sum_by}
use Rattle.std.proofs.Common.{◌≡◌, ℕ, length, ap, ◌∙◌, arith}
use Rattle.std.proofs.lemmas.List.{take_all}
use Rattle.cell_sweep.specs.CellStates.{cell_state_at}
use Rattle.region_body.specs.Carrying.{brought, passed, taken}
use Rattle.region_body.specs.CellRefs.{given_before}
use Rattle.region_body.specs.declared.followed_connector.FollowedConnector.{FollowedConnector}
use Rattle.region_body.proofs.MovedStates.{can-pass-more, passed-more, passed-none}
use Rattle.region_body.proofs.carry.carry_all.Goals as goal

pub loop-connector-init : goal.loop-connector-init
loop-connector-init c = λ p within. passed-none (cell_state_at c.args.states.now p)

pub carry-requires-clause-connector : goal.carry-requires-clause-connector
carry-requires-clause-connector c =
    let connector : FollowedConnector = c.connector-item.result in
    let long : length c.args.states.now ≡ length c.loop-connector.states = omega arith in
    rw (← c.connector-item.is, long) at (c.requires.each c.loop-connector.connector-index connector (omega arith))

pub carry-requires-clause-can : goal.carry-requires-clause-can
carry-requires-clause-can c = λ p within.
    let given = given_before c.args.speeds.now c.args.before.now c.args.put.now in
    let t : ℕ = c.args.t in
    let connectors = c.args.connectors.now in
    let connector : FollowedConnector = c.connector-item.result in
    let can = can-pass-more (brought t given p) (taken t given p) connectors c.loop-connector.connector-index connector (cell_state_at c.args.states.now p) (cell_state_at c.loop-connector.states p)
    (omega arith) (c.loop-connector.invariant p (omega arith)) (c.requires.can p (omega arith)) in
    rw (← c.connector-item.is) at can

pub loop-connector-preserved : goal.loop-connector-preserved
loop-connector-preserved c = λ p within.
    let given = given_before c.args.speeds.now c.args.before.now c.args.put.now in
    let t : ℕ = c.args.t in
    let connector : FollowedConnector = c.connector-item.result in
    let here = c.carry.ensures p (omega arith) in
    passed-more (brought t given p) (taken t given p) c.args.connectors.now c.loop-connector.connector-index connector (cell_state_at c.args.states.now p) (cell_state_at c.loop-connector.states p)
    (cell_state_at c.carry.new.states p) (omega arith) (c.loop-connector.invariant p (omega arith))
    (here ∙ ap (λ one. passed (cell_state_at c.loop-connector.states p) (brought t given p one) (taken t given p one)) c.connector-item.is) (c.requires.can p (omega arith)).held

pub returns : goal.returns
returns c = λ p within.
    let given = given_before c.args.speeds.now c.args.before.now c.args.put.now in
    let t : ℕ = c.args.t in
    let all = take_all c.loop-connector.connector-index c.args.connectors.now (omega arith) in
    c.loop-connector.invariant p (omega arith)
    ∙ ap (λ connectors. passed (cell_state_at c.args.states.now p) (sum_by (brought t given p) connectors) (sum_by (taken t given p) connectors)) all

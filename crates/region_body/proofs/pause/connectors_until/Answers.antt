use Rattle.std.specs.Prelude.{All}
use Rattle.std.proofs.Common.{ℕ, subst, sym, ap, ◌∙◌, arith}
use Rattle.std.proofs.lemmas.List.{take_all}
use Rattle.std.proofs.lemmas.List.Elements.{All-more, All-weaker}
use Rattle.connector_flow.specs.Flows.{flow_at}
use Rattle.region_body.specs.CellRefs.{held_in}
use Rattle.region_body.specs.Pausing.{IsIdleUntil}
use Rattle.region_body.specs.declared.followed_connector.FollowedConnector.{FollowedConnector}
use Rattle.region_body.proofs.pause.connectors_until.Goals as goal

pub loop-connector-preserved : goal.loop-connector-preserved
loop-connector-preserved c =
    let speeds = c.args.speeds.now in
    let states = c.args.states.now in
    let put = c.args.put.now in
    let i : ℕ = c.loop-connector.connector-index in
    let connector : FollowedConnector = c.connector-item.result in
    let until : ℕ = c.min-until.result in
    let earlier = All-weaker (IsIdleUntil speeds states put c.loop-connector.until) (IsIdleUntil speeds states put until)
    (λ one is s from before. is s from (omega (arith, before, c.min-until.ensures))) _ c.loop-connector.invariant in
    let here : IsIdleUntil speeds states put until connector = λ s from before.
    ap (flow_at connector.timeline s) (sym (c.given-n.ensures (held_in states put) c.held_by.ensures)) ∙ c.idle_until.ensures s from (omega (arith, before, c.min-until.ensures)) in
    All-more (IsIdleUntil speeds states put until) c.args.connectors.now i connector (omega (arith, c.loop-connector-test.true)) earlier
    (subst (IsIdleUntil speeds states put until) c.connector-item.is here)

pub returns : goal.returns
returns c = subst (All (IsIdleUntil c.args.speeds.now c.args.states.now c.args.put.now c.loop-connector.until))
    (take_all c.loop-connector.connector-index c.args.connectors.now (omega (arith, c.loop-connector-test.false))) c.loop-connector.invariant

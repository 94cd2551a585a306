-- A timeline that is made of a connector's cells is that of the connector.
use Rattle.std.specs.Prelude.{All, IfOk, Result, slice_index}
use Rattle.std.proofs.Common.{◌≡◌, ℕ, zero, suc, ◌<◌, List, [], ◌∷◌, length, get_or, refl, sym, ap, subst, ◌∙◌, arith}
use Rattle.std.proofs.lemmas.Result.{IfOk-weaker}
use Rattle.step_plan.specs.Turning.{shares_at}
use Rattle.no_memory.specs.declared.memory.NoMemory.{NoMemory}
use Rattle.network_file.specs.Numbered.{connector_at}
use Rattle.network_file.specs.Network.{Network}
use Rattle.network_file.specs.Sound.{IsNetwork, IsSoundConnector}
use Rattle.network_file.specs.declared.connector.Connector.{Connector}
use Rattle.network_file.specs.declared.connector.Connector.TheVariants.{Link, Merge, Diverge}
use Rattle.network_file.proofs.NetworkFacts.{connector_at-sound, read_connector}
use Rattle.connector_flow.specs.Limits.{limits_by}
use Rattle.connector_flow.specs.Flows.{ConnectorValues, carried_by, flow_at, limits_of}
use Rattle.connector_flow.specs.Following.{IsConnectorOf, IsTimelineOf, given_in}
use Rattle.timelines.specs.Timelines.{TimelineValue, value_at}
use Rattle.connector_flow.specs.declared.limits.Limits.{Limits}
use Rattle.connector_flow.specs.declared.rule.Rule.{Rule}
use Rattle.connector_flow.specs.declared.space.Space.{Space}
use Rattle.connector_flow.specs.declared.rule.Rule.TheVariants.{Linking, Merging, Diverging}
use Rattle.connector_flow.proofs.Spaces.{receiving-is, sending-is}

-- what is carried within the limits of a step is what the timeline carries then
pub flow-within : (timeline : ConnectorValues) (limits : Limits) (t : ℕ) (n : List ℕ) → limits_of timeline t ≡ limits →
    carried_by timeline.rule limits timeline.second_space timeline.third_space n ≡ flow_at timeline t n
unfolding flow_at
flow-within timeline limits t n is = ap (λ one. carried_by timeline.rule one timeline.second_space timeline.third_space n) (sym is)

-- the same limits in all steps carry the same
pub flow-same : (old new : ConnectorValues) (t : ℕ) (n : List ℕ) → new.rule ≡ old.rule → new.second_space ≡ old.second_space →
    new.third_space ≡ old.third_space → limits_of new t ≡ limits_of old t → flow_at new t n ≡ flow_at old t n
unfolding flow_at
flow-same old new t n rule second third limits = rw (rule, second, third, limits) refl

flow-made : (net : Network) (rule : Rule) (cells : List ℕ) (weights : TimelineValue (ℕ × ℕ)) (timeline : ConnectorValues) (t : ℕ) (n : List ℕ) →
    IsConnectorOf net rule cells weights timeline → t < net.steps →
    flow_at timeline t n ≡ carried_by rule (limits_by net.plan rule cells weights t) timeline.second_space timeline.third_space n
unfolding flow_at
flow-made net rule cells weights timeline t n has before =
    let second : Space = timeline.second_space in
    let third : Space = timeline.third_space in
    ap (λ one. carried_by one (limits_of timeline t) second third n) has.rule_is
    ∙ ap (λ limits. carried_by rule limits second third n) (has.limits t before)

pub made-link : (net : Network) (up down : ℕ) (weights : TimelineValue (ℕ × ℕ)) (timeline : ConnectorValues) → IsNetwork net →
    IsSoundConnector net.cells (Link up down) → IsConnectorOf net Linking (up ∷ down ∷ down ∷ []) weights timeline → IsTimelineOf net (Link up down) timeline
made-link net up down weights timeline sound connector made = record {
  rule = made.rule_is;
  flow = λ t n before held.
      let there : down < length net.cells = (connector.down 0 0 (omega arith)).0 in
      let s = sending-is net t up (slice_index n 0) in
      let r = receiving-is net t down (slice_index n 1) timeline.second_space sound before there made.second (held.each 1 (omega arith)) in
      flow-made net Linking (up ∷ down ∷ down ∷ []) weights timeline t (given_in net t (Link up down) n) made before ∙ rw (s, r) refl;
}

pub made-merge : (net : Network) (up1 up2 down p1 p2 : ℕ) (weights : TimelineValue (ℕ × ℕ)) (timeline : ConnectorValues) → IsNetwork net →
    IsSoundConnector net.cells (Merge up1 up2 down p1 p2) → ((t : ℕ) → value_at weights t ≡ (p1, p2)) →
    IsConnectorOf net Merging (up1 ∷ up2 ∷ down ∷ []) weights timeline → IsTimelineOf net (Merge up1 up2 down p1 p2) timeline
made-merge net up1 up2 down p1 p2 weights timeline sound connector are made = record {
  rule = made.rule_is;
  flow = λ t n before held.
      let there : down < length net.cells = (connector.down 0 0 (omega arith)).0 in
      let s1 = sending-is net t up1 (slice_index n 0) in
      let s2 = sending-is net t up2 (slice_index n 1) in
      let r = receiving-is net t down (slice_index n 2) timeline.third_space sound before there made.third (held.each 2 (omega arith)) in
      flow-made net Merging (up1 ∷ up2 ∷ down ∷ []) weights timeline t (given_in net t (Merge up1 up2 down p1 p2) n) made before
      ∙ rw (s1, s2, r, are t) refl;
}

pub made-diverge : (net : Network) (up down1 down2 b1 b2 : ℕ) (weights : TimelineValue (ℕ × ℕ)) (timeline : ConnectorValues) → IsNetwork net →
    IsSoundConnector net.cells (Diverge up down1 down2 b1 b2) → ((t : ℕ) → value_at weights t ≡ shares_at net.plan up t (b1, b2)) →
    IsConnectorOf net Diverging (up ∷ down1 ∷ down2 ∷ []) weights timeline → IsTimelineOf net (Diverge up down1 down2 b1 b2) timeline
made-diverge net up down1 down2 b1 b2 weights timeline sound connector are made = record {
  rule = made.rule_is;
  flow = λ t n before held.
      let there1 : down1 < length net.cells = (connector.down 0 0 (omega arith)).0 in
      let there2 : down2 < length net.cells = (connector.down 1 0 (omega arith)).0 in
      let s = sending-is net t up (slice_index n 0) in
      let r1 = receiving-is net t down1 (slice_index n 1) timeline.second_space sound before there1 made.second (held.each 1 (omega arith)) in
      let r2 = receiving-is net t down2 (slice_index n 2) timeline.third_space sound before there2 made.third (held.each 2 (omega arith)) in
      flow-made net Diverging (up ∷ down1 ∷ down2 ∷ []) weights timeline t (given_in net t (Diverge up down1 down2 b1 b2) n) made before
      ∙ rw (s, r1, r2, are t) refl;
}

-- the cells of a merge are there, and those of a diverge
pub merge-cells : (net : Network) (up1 up2 down p1 p2 : ℕ) → IsSoundConnector net.cells (Merge up1 up2 down p1 p2) →
    All (λ i. i < length net.cells) (up1 ∷ up2 ∷ down ∷ [])
merge-cells net up1 up2 down p1 p2 sound zero d within = (sound.up 0 d (omega arith)).0
merge-cells net up1 up2 down p1 p2 sound (suc zero) d within = (sound.up 1 d (omega arith)).0
merge-cells net up1 up2 down p1 p2 sound (suc (suc zero)) d within = (sound.down 0 d (omega arith)).0
merge-cells net up1 up2 down p1 p2 sound (suc (suc (suc k))) d within = absurd (omega arith)

pub diverge-cells : (net : Network) (up down1 down2 b1 b2 : ℕ) → IsSoundConnector net.cells (Diverge up down1 down2 b1 b2) →
    All (λ i. i < length net.cells) (up ∷ down1 ∷ down2 ∷ [])
diverge-cells net up down1 down2 b1 b2 sound zero d within = (sound.up 0 d (omega arith)).0
diverge-cells net up down1 down2 b1 b2 sound (suc zero) d within = (sound.down 0 d (omega arith)).0
diverge-cells net up down1 down2 b1 b2 sound (suc (suc zero)) d within = (sound.down 1 d (omega arith)).0
diverge-cells net up down1 down2 b1 b2 sound (suc (suc (suc k))) d within = absurd (omega arith)

-- the connector of a number, as it was read
pub record IsRead (net : Network) (k : ℕ) (connector : Connector) : Type 0 where
  pub network : IsNetwork net
  pub is : connector_at net.connectors k ≡ connector
  pub sound : IsSoundConnector net.cells connector

pub read-as : (net : Network) (items : List Connector) (k : ℕ) (read connector : Connector) → IsNetwork net → items ≡ net.connectors →
    k < length net.connectors → read ≡ get_or items k read → read ≡ connector → IsRead net k connector
read-as net items k read connector network same has is_read matched =
    let is = read_connector items net.connectors k read same has is_read ∙ matched in
    record { network = network; is = is; sound = subst (IsSoundConnector net.cells) is (connector_at-sound net k network has) }

-- what is made of it is its timeline
pub made-read : (net : Network) (k : ℕ) (connector : Connector) (Made : ConnectorValues → Type 0) (result : Result ConnectorValues NoMemory) →
    IsRead net k connector → ((timeline : ConnectorValues) → Made timeline → IsTimelineOf net connector timeline) → IfOk result Made →
    IfOk result (IsTimelineOf net (connector_at net.connectors k))
made-read net k connector Made result read is made =
    IfOk-weaker result Made (IsTimelineOf net (connector_at net.connectors k))
    (λ timeline one. subst (λ at. IsTimelineOf net at timeline) (sym read.is) (is timeline one)) made

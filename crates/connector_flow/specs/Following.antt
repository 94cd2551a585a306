-- The timeline of a connector of a network.
use Rattle.std.specs.Prelude.{◌≡◌, ℕ, ◌<◌, Bool, true, List, [], ◌∷◌, if◌then◌else◌, slice_index}
use Rattle.step_plan.specs.Speeds.{arriving, speed_at}
use Rattle.network_file.specs.Connectors.{cells_of}
use Rattle.network_file.specs.Network.{Network}
use Rattle.network_file.specs.declared.connector.Connector.{Connector}
use Rattle.network_file.specs.declared.connector.Connector.TheVariants.{Link, Merge, Diverge}
use Rattle.flow_model.specs.Bounds.{AreHeldInBounds}
use Rattle.flow_model.specs.Flows.{flow_between}
use Rattle.flow_model.specs.Limits.{room_at}
use Rattle.connector_flow.specs.Space.{IsSpaceOf}
use Rattle.connector_flow.specs.Limits.{limits_by, sends_second}
use Rattle.connector_flow.specs.Flows.{ConnectorValues, flow_at, limits_of}
use Rattle.connector_flow.specs.declared.rule.Rule.{Rule}
use Rattle.connector_flow.specs.declared.rule.Rule.TheVariants.{Linking, Merging, Diverging}
use Rattle.timelines.specs.Timelines.{TimelineValue}

-- the rule of a connector
abbrev pub rule_of : Connector → Rule
rule_of (Link up down) = Linking
rule_of (Merge up1 up2 down p1 p2) = Merging
rule_of (Diverge up down1 down2 b1 b2) = Diverging

-- of n parts in a cell those that come to its end in step t, where it sends, and else all
abbrev pub sent_in : Network → (sends : Bool) → (t cell n : ℕ) → ℕ
sent_in net sends t cell n = if sends then arriving (speed_at net.plan cell t) n else n

-- what a connector is given in step t where its cells hold n: of cells that send what comes to their ends, of others all
abbrev pub given_in : Network → (t : ℕ) → Connector → (n : List ℕ) → List ℕ
given_in net t connector n =
    sent_in net true t (slice_index (cells_of connector) 0) (slice_index n 0)
    ∷ sent_in net (sends_second (rule_of connector)) t (slice_index (cells_of connector) 1) (slice_index n 1)
    ∷ slice_index n 2 ∷ []

-- it is the timeline of this connector: in each step it carries what the connector does, by what this is given
pub record IsTimelineOf (net : Network) (connector : Connector) (timeline : ConnectorValues) : Type 0 where
  pub rule : timeline.rule ≡ rule_of connector
  pub flow : (t : ℕ) (n : List ℕ) → t < net.steps → AreHeldInBounds net t (cells_of connector) n →
      flow_at timeline t (given_in net t connector n) ≡ flow_between net t connector n

-- it is made of these cells, by this rule, with these weights
pub record IsConnectorOf (net : Network) (rule : Rule) (cells : List ℕ) (weights : TimelineValue (ℕ × ℕ)) (timeline : ConnectorValues) : Type 0 where
  pub rule_is : timeline.rule ≡ rule
  pub limits : (t : ℕ) → t < net.steps → limits_of timeline t ≡ limits_by net.plan rule cells weights t
  pub second : IsSpaceOf timeline.second_space (room_at net.cells (slice_index cells 1))
  pub third : IsSpaceOf timeline.third_space (room_at net.cells (slice_index cells 2))
  pub step : timeline.step ≡ 0

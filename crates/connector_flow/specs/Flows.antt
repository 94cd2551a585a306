-- What a connector carries by its timeline.
use Rattle.std.specs.Prelude.{ℕ, List, Option, Some, None, min, slice_index}
use Rattle.flow_model.specs.Flows.{diverge_carries, link_carries, merge_carries}
use Rattle.flow_model.specs.declared.carried.Flow.{Flow}
use Rattle.connector_flow.specs.Space.{let_in}
use Rattle.connector_flow.specs.declared.space.Space.{Space}
use Rattle.connector_flow.specs.Limits.{limits_in}
use Rattle.connector_flow.specs.declared.limit_timelines.LimitTimelines.{LimitTimelines}
use Rattle.connector_flow.specs.declared.limits.Limits.{Limits}
use Rattle.connector_flow.specs.declared.rule.Rule.{Rule}
use Rattle.connector_flow.specs.declared.rule.Rule.TheVariants.{Linking, Merging, Diverging}

-- a connector within its limits, as contracts see it: its rule, what changes of it, the limits that are in force, the spaces
-- of its second cell and of its third, the step that was come to, and the first at which these limits may change
pub record ConnectorValues : Type 0 where
  pub rule : Rule
  pub timelines : Option LimitTimelines
  pub limits : Limits
  pub second_space : Space
  pub third_space : Space
  pub step : ℕ
  pub until : ℕ

-- what a cell with this space that holds n parts receives of so much at most
abbrev pub received : (most : ℕ) → Space → (n : ℕ) → ℕ
received most space n = min most (let_in space n)

-- what it carries within these limits where it is given n: of cells that send the parts at their ends, of others what they hold
abbrev pub carried_by : Rule → Limits → (second_space third_space : Space) → (n : List ℕ) → Flow
carried_by Linking limits second_space third_space n =
    link_carries (min limits.first (slice_index n 0)) (received limits.second second_space (slice_index n 1))
carried_by Merging limits second_space third_space n =
    merge_carries (min limits.first (slice_index n 0)) (min limits.second (slice_index n 1))
    (received limits.third third_space (slice_index n 2)) limits.weights.0 limits.weights.1
carried_by Diverging limits second_space third_space n =
    diverge_carries (min limits.first (slice_index n 0)) (received limits.second second_space (slice_index n 1))
    (received limits.third third_space (slice_index n 2)) limits.weights.0 limits.weights.1

-- nothing is carried
abbrev pub no_flow : Flow
no_flow = record { out1 = 0; out2 = 0; in1 = 0; in2 = 0 }

-- what bounds its flow in step t
abbrev pub limits_of : ConnectorValues → (t : ℕ) → Limits
limits_of timeline t = limits_in timeline.timelines timeline.limits t

-- what it carries in step t where it is given n
unfoldable pub flow_at : ConnectorValues → (t : ℕ) → (n : List ℕ) → Flow
flow_at timeline t n = carried_by timeline.rule (limits_of timeline t) timeline.second_space timeline.third_space n

-- What bounds the flow of a connector from step to step.
use Rattle.std.specs.Prelude.{◌≡◌, ℕ, ◌<◌, ◌≤◌, Bool, true, false, List, Option, Some, None, slice_index}
use Rattle.step_plan.specs.Records.{PlanRecords}
use Rattle.step_plan.specs.Limits.{most_steps}
use Rattle.timelines.specs.Cells.{cell_most, most_by}
use Rattle.connector_flow.specs.Weights.{AreWeights}
use Rattle.timelines.specs.Timelines.{TimelineValue, value_at}
use Rattle.connector_flow.specs.declared.limit_timelines.LimitTimelines.{LimitTimelines}
use Rattle.connector_flow.specs.declared.limits.Limits.{Limits}
use Rattle.connector_flow.specs.declared.rule.Rule.{Rule}
use Rattle.connector_flow.specs.declared.rule.Rule.TheVariants.{Linking, Merging, Diverging}

-- the second cell of a merge sends, and that of any other connector receives
abbrev pub sends_second : Rule → Bool
sends_second Linking = false
sends_second Merging = true
sends_second Diverging = false

-- what bounds the flow in step t
unfoldable pub limits_of_timelines : LimitTimelines → (t : ℕ) → Limits
limits_of_timelines timelines t = record {
  first = cell_most timelines.first t;
  second = cell_most timelines.second t;
  third = cell_most timelines.third t;
  weights = value_at timelines.weights t;
}

-- the same by the plan, of a connector of these cells
abbrev pub limits_by : PlanRecords → Rule → (cells : List ℕ) → TimelineValue (ℕ × ℕ) → (t : ℕ) → Limits
limits_by plan rule cells weights t = record {
  first = most_by plan (slice_index cells 0) true t;
  second = most_by plan (slice_index cells 1) (sends_second rule) t;
  third = most_by plan (slice_index cells 2) false t;
  weights = value_at weights t;
}

-- each has come to no step past t
pub record HaveTimelinesCome (timelines : LimitTimelines) (t : ℕ) : Type 0 where
  pub first : timelines.first.capacity.step ≤ t
  pub second : timelines.second.capacity.step ≤ t
  pub third : timelines.third.capacity.step ≤ t
  pub weights : timelines.weights.step ≤ t

-- as they are once they have come to step t
abbrev pub moved_to : LimitTimelines → (t : ℕ) → LimitTimelines
moved_to timelines t = record {
  first = record timelines.first { capacity = record timelines.first.capacity { step = t } };
  second = record timelines.second { capacity = record timelines.second.capacity { step = t } };
  third = record timelines.third { capacity = record timelines.third.capacity { step = t } };
  weights = record timelines.weights { step = t };
}

-- these limits are in force from the step on until another
pub record AreInForce (timelines : LimitTimelines) (limits : Limits) (step until : ℕ) : Type 0 where
  pub steady : (t : ℕ) → step ≤ t → t < until → limits_of_timelines timelines t ≡ limits
  pub later : step < until
  pub come : HaveTimelinesCome timelines step
  pub weights : AreWeights timelines.weights

-- where nothing changes no timelines are kept, and the limits stay past the last step that there may be
abbrev pub AreKept : Option LimitTimelines → Limits → (step until : ℕ) → Type 0
AreKept None limits step until = most_steps < until
AreKept (Some timelines) limits step until = AreInForce timelines limits step until

-- what bounds the flow in step t by the timelines that are kept, or by limits that never change
unfoldable pub limits_in : Option LimitTimelines → Limits → (t : ℕ) → Limits
limits_in None limits t = limits
limits_in (Some timelines) limits t = limits_of_timelines timelines t

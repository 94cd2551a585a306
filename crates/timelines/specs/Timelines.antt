-- The timeline of a value over the steps.
use Rattle.std.specs.Prelude.{◌≡◌, ℕ, ◌<◌, ◌≤◌, List}
use Rattle.step_plan.specs.Changes.{in_force}
use Rattle.step_plan.specs.declared.change.Change.{Change}

-- a value by its changes, and the step to which it was followed
pub record TimelineValue (X : Type 0) : Type 0 where
  pub start : X
  pub changes : List (Change X)
  pub step : ℕ

-- the value at step t
abbrev pub value_at : {X : Type 0} → TimelineValue X → (t : ℕ) → X
value_at timeline t = in_force timeline.start timeline.changes t

-- from step t up to the step `until` the value stays
abbrev pub IsSteady : {X : Type 0} → (ℕ → X) → (t until : ℕ) → Type 0
IsSteady at t until = (s : ℕ) → t ≤ s → s < until → at s ≡ at t

-- How many changes of a value have come by a step.
use Rattle.std.specs.Prelude.{◌≡◌, ℕ, ◌+◌, ◌<◌, ◌≤◌, ◌^◌, List, length, slice_index_or, take}
use Rattle.step_plan.specs.Changes.{IsRising, in_force}
use Rattle.step_plan.specs.declared.change.Change.{Change}

-- by so many changes this is in force, at step t and as long as no other comes
pub record HasPassed {X : Type 0} (start : X) (changes : List (Change X)) (come : ℕ) (value : X) (t : ℕ) : Type 0 where
  pub stays : (s : ℕ) → t ≤ s → in_force start (take come changes) s ≡ value

-- and all others come later, at the step `until` at the earliest
pub record HasCome {X : Type 0} (start : X) (changes : List (Change X)) (come : ℕ) (value : X) (until t : ℕ) : Type 0 where
  pub rising : IsRising changes
  pub within : come ≤ length changes
  pub passed : HasPassed start changes come value t
  pub left : (c : Change X) → come < length changes → t < (slice_index_or changes come c).step
  pub next : (c : Change X) → come < length changes → until ≤ (slice_index_or changes come c).step
  pub later : t + 1 < 2 ^ 64 → t < until

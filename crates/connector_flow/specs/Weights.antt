-- The weights of a connector: the priorities of a merge, the turning shares of a diverge.
use Rattle.std.specs.Prelude.{◌≡◌, ℕ, ◌+◌, ◌≤◌}
use Rattle.step_plan.specs.Limits.{most_ratio}
use Rattle.timelines.specs.Timelines.{TimelineValue, value_at}

-- a priority or a turning share
abbrev pub IsWeight : (weight : ℕ) → Type 0
IsWeight weight = (1 ≤ weight) × (weight ≤ most_ratio)

-- both are weights
pub record AreBoth (pair : ℕ × ℕ) : Type 0 where
  pub first : IsWeight pair.0
  pub second : IsWeight pair.1

-- and this is the ratio of one to both together
pub record HaveShare (pair : ℕ × ℕ) (share : ℕ × ℕ) : Type 0 where
  pub weights : AreBoth pair
  pub share_is : (1, pair.0 + pair.1) ≡ share

-- so are both in each step
abbrev pub AreWeights : TimelineValue (ℕ × ℕ) → Type 0
AreWeights weights = (t : ℕ) → AreBoth (value_at weights t)

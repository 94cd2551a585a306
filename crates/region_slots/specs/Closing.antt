-- What a field comes to when it is closed.
use Rattle.std.specs.Prelude.{◌≡◌, ◌⊎◌, ℕ, ◌-◌, ◌<◌, ◌≤◌, List, slice_index, sum_by}
use Rattle.std.specs.List.{range_with_len}
use Rattle.region_step.specs.Start.{StartLists}
use Rattle.border_rows.specs.Views.{times_in}
use Rattle.border_rows.specs.declared.view.PublishedStep.{PublishedStep}

-- how many steps so many regions have made since their start, once they stand at these steps
abbrev pub steps_since : StartLists → (count : ℕ) → (steps : List ℕ) → ℕ
steps_since start count steps = sum_by (λ r. slice_index steps r - slice_index start.steps r) (range_with_len 0 count)

-- a log that has once each step which so many regions have made since their start, and nothing else
pub record AreLogged (start : StartLists) (count : ℕ) (steps : List ℕ) (log : List PublishedStep) : Type 0 where
  pub each : (r s : ℕ) → r < count → slice_index start.steps r < s → s ≤ slice_index steps r → times_in log r s ≡ 1
  pub others : (r s : ℕ) → (count ≤ r) ⊎ ((s ≤ slice_index start.steps r) ⊎ (slice_index steps r < s)) → times_in log r s ≡ 0

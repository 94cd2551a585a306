-- A place in a list of changes: those before it are taken, and the others are left.
use Rattle.std.specs.Prelude.{ℕ, ◌≡◌, ◌<◌, ◌≤◌, ◌⊎◌, List, length, slice_index_or, take}
use Rattle.step_plan.specs.declared.change.Change.{Change}
use Rattle.step_plan.specs.Changes.{in_force}

-- the change at this place, if there is one, is at the step or later
abbrev pub IsLeft : {X : Type 0} → List (Change X) → (at step : ℕ) → Type 0
IsLeft changes at step = (c : _) → at < length changes → step ≤ (slice_index_or changes at c).step

-- the change at this place is at the step
abbrev pub IsHere : {X : Type 0} → List (Change X) → (at step : ℕ) → Type 0
IsHere changes at step = (at < length changes) × ((c : _) → (slice_index_or changes at c).step ≡ step)

-- of the two changes at these places the earlier one is at the step
pub record IsNext {X : Type 0} (step : ℕ) (first : List (Change X)) (i : ℕ) (second : List (Change X)) (j : ℕ) : Type 0 where
  pub here : IsHere first i step ⊎ IsHere second j step
  pub first_left : IsLeft first i step
  pub second_left : IsLeft second j step

-- the place moves from `from` to `to` over a change at the step, and `new` is in force from there on in place of `old`
pub record IsTaken {X : Type 0} (changes : List (Change X)) (from : ℕ) (old : X) (step to : ℕ) (new : X) : Type 0 where
  pub forward : from ≤ to
  pub within : to ≤ length changes
  pub moves : IsHere changes from step → from < to
  pub left : (k : ℕ) (c : Change X) → to ≤ k → k < length changes → step < (slice_index_or changes k c).step
  pub now : (none : X) (t : ℕ) → step ≤ t → in_force none (take from changes) t ≡ old → in_force none (take to changes) t ≡ new
  pub earlier : (none : X) (t : ℕ) → t < step → in_force none (take to changes) t ≡ in_force none (take from changes) t

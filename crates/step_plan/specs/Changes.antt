use Rattle.std.specs.Prelude.{ℕ, ◌<◌, List, length, nat_le, slice_index_or}
use Rattle.step_plan.specs.Last.{last_said}
use Rattle.step_plan.specs.declared.change.Change.{Change}

-- the value in force at step `t`: that of the last change at or before it, and else the value at the start
unfoldable pub in_force : {X : Type 0} → (start : X) → List (Change X) → (t : ℕ) → X
in_force start changes t = last_said (λ change. nat_le change.step t) (λ change. change.value) changes start

-- each change is at a later step than all before it
abbrev pub IsRising : {X : Type 0} → List (Change X) → Type 0
IsRising changes = (i j : ℕ) (c : _) → i < j → j < length changes → (slice_index_or changes i c).step < (slice_index_or changes j c).step

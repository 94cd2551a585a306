-- What a call over slices does to one of them.
use Rattle.std.specs.Prelude.{◌≡◌, ℕ, ◌≤◌, ◌<◌, List, length, slice_index}

-- the values at the places from `from` up to `to` are those of the function, and all others are the old ones
pub record Sets (from to : ℕ) (value : ℕ → ℕ) (old new : List ℕ) : Type 0 where
  pub len : length new ≡ length old
  pub set : (i : ℕ) → from ≤ i → i < to → slice_index new i ≡ value i
  pub before : (i : ℕ) → i < from → slice_index new i ≡ slice_index old i
  pub after : (i : ℕ) → to ≤ i → slice_index new i ≡ slice_index old i

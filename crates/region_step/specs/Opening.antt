-- What a region is opened with.
use Rattle.std.specs.Prelude.{◌≡◌, ℕ, ◌<◌, List, length, slice_index}

-- for each border cell its place among the region's cells
pub record ArePlaces (cells border places : List ℕ) : Type 0 where
  pub one_each : length places ≡ length border
  pub each : (j : ℕ) → j < length border → (slice_index places j < length cells) × (slice_index cells (slice_index places j) ≡ slice_index border j)

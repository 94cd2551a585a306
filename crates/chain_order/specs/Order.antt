-- Orders of cells.
use Rattle.std.specs.Prelude.{◌≡◌, ℕ, ◌<◌, List, length, slice_index}

-- An order of cells, and the place of each cell in it.
pub record OrderLists : Type 0 where
  -- the cells one after the other as they are placed
  pub placed : List ℕ
  -- the place of each of the cells, in the order that was given
  pub places : List ℕ

-- these are the cells, each at its place
pub record IsOrder (cells : List ℕ) (order : OrderLists) : Type 0 where
  pub long : length order.placed ≡ length cells
  pub place_each : length order.places ≡ length cells
  pub there : (m : ℕ) → m < length cells → slice_index order.places m < length cells
  pub at_place : (m : ℕ) → m < length cells → slice_index order.placed (slice_index order.places m) ≡ slice_index cells m
  pub filled : (p : ℕ) → p < length cells → (m : ℕ) × (m < length cells) × (slice_index order.places m ≡ p)

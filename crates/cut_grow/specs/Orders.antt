-- Orders of all cells.
use Rattle.std.specs.Prelude.{◌≡◌, ℕ, ◌<◌, List, length, slice_index, All}
use Rattle.std.specs.List.{Contains}

-- a list of the numbers below a bound, each once
pub record IsPermutation (cells : ℕ) (order : List ℕ) : Type 0 where
  pub long : length order ≡ cells
  pub there : All (λ i. i < cells) order
  pub each : (i : ℕ) → i < cells → Contains order i
  pub once : (p q : ℕ) → p < length order → q < length order → slice_index order p ≡ slice_index order q → p ≡ q

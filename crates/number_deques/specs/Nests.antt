-- What is known of the numbers of regions that workers hand to each other.
use Rattle.std.specs.Prelude.{◌≡◌, ℕ, ◌<◌, ◌≤◌, List, All, length}
use mathlib.Core.Option.{some}
use lib.ListN.{get_elem?}

-- The rule of a deque: its numbers are below one that each of its passes knows, and that may be 0 only as long as there is
-- one pass at most.
pub record AreBelow (items views : List ℕ) : Type 0 where
  pub limit : ℕ
  pub below : All (λ r. r < limit) items
  pub known : (port v : ℕ) → get_elem? views port ≡ some v → v ≡ limit
  pub alone : limit ≡ 0 → length views ≤ 1

-- a nest: for how many members and for how many regions it was made
pub record NestValue : Type 0 where
  pub members : ℕ
  pub regions : ℕ

-- A cutting: the number of a region for each cell.
use Rattle.std.specs.Prelude.{ℕ, ◌≡◌, ◌<◌, Bool, true, List, [], ◌∷◌, eqb, length, max, All}
use Rattle.std.specs.List.{list_all, list_any, range_with_len}
use Rattle.network_file.specs.Limits.{most_regions}

-- the greatest number of a list, 0 for the empty list
abbrev pub greatest : List ℕ → ℕ
greatest [] = 0
greatest (number ∷ numbers) = max number (greatest numbers)

-- each number below the greatest is there
unfoldable pub has_no_gap : List ℕ → Bool
has_no_gap numbers = list_all (λ number. list_any (eqb number) numbers) (range_with_len 0 (greatest numbers))

-- the region number of each cell, where each number below the greatest has a cell
pub record IsCutting (cells : ℕ) (regions : List ℕ) : Type 0 where
  pub one_each : length regions ≡ cells
  pub few : All (λ region. region < most_regions) regions
  pub no_gap : has_no_gap regions ≡ true

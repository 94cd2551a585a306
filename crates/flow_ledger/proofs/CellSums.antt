-- Sums over the cells that pass a test, one cell after the other.
use Rattle.std.specs.Prelude.{sum_by, if◌then◌else◌}
use Rattle.std.specs.List.{range_with_len}
use Rattle.std.proofs.Common.{◌≡◌, ℕ, Bool, ◌+◌, [], arith, ap}
use Rattle.std.proofs.lemmas.List.Sums.{sum_by-cons}
use Rattle.step_plan.proofs.Sums.{sum_by-filter, sum_by_range_split}
use Rattle.flow_ledger.specs.Books.{sum_where}

-- by a part of each cell, which is 0 where the cell doesn't pass
pub sum_where-parts : (passes : ℕ → Bool) (f : ℕ → ℕ) (cells : ℕ) →
    sum_where passes f cells ≡ sum_by (λ i. if passes i then f i else 0) (range_with_len 0 cells)
sum_where-parts passes f cells = sum_by-filter f passes (range_with_len 0 cells)

-- and one cell more
pub sum_where-more : (passes : ℕ → Bool) (f : ℕ → ℕ) (i : ℕ) →
    sum_where passes f (i + 1) ≡ sum_where passes f i + (if passes i then f i else 0)
sum_where-more passes f i =
    let part : ℕ → ℕ = λ j. if passes j then f j else 0 in
    let next : 0 + i ≡ i = omega arith in
    omega (
      arith,
      sum_where-parts passes f (i + 1),
      sum_where-parts passes f i,
      sum_by_range_split part 0 i 1,
      sum_by-cons part (0 + i) [],
      ap part next,
    )

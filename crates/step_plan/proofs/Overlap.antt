-- What one record brings to one cell, and to all cells, in a range of steps.
use Rattle.std.specs.Prelude.{if◌then◌else◌, ◌&&◌, nat_le, nat_lt, sum_by, min, max}
use Rattle.std.specs.List.{range_with_len}
use Rattle.std.proofs.Common.{◌≡◌, ℕ, zero, suc, mul-zero, ◌+◌, ◌-◌, ◌*◌, arith, sym, ◌∙◌, ap}
use Rattle.std.proofs.lemmas.Bool.Decides.{nat_tests}
use Rattle.std.proofs.lemmas.List.Sums.{sum_by-cons}

-- one more step
overlap_more : (from to amount a n : ℕ) →
    (if nat_le from a && nat_lt a to then amount else 0) + amount * (min to ((a + 1) + n) - max from (a + 1)) ≡
    amount * (min to (a + suc n) - max from a)
overlap_more from to amount a n = grind (arith, nat_tests)

pub steps_in : (from to amount a n : ℕ) →
    sum_by (λ u. if nat_le from u && nat_lt u to then amount else 0) (range_with_len a n) ≡
    amount * (min to (a + n) - max from a)
steps_in from to amount a zero =
    let none : min to (a + zero) - max from a ≡ 0 = omega arith in
    rw none (sym (mul-zero amount))
steps_in from to amount a (suc n) =
    sum_by-cons (λ u. if nat_le from u && nat_lt u to then amount else 0) a (range_with_len (a + 1) n) ∙
    ap (λ rest. (if nat_le from a && nat_lt a to then amount else 0) + rest) (steps_in from to amount (a + 1) n) ∙
    overlap_more from to amount a n

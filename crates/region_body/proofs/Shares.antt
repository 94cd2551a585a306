-- The sum of what some connectors move, where all others move nothing, or one other moves all.
use Rattle.std.specs.Prelude.{All, Bool, ◌⊎◌, if◌then◌else◌}
use Rattle.std.specs.List.{filter, range_with_len, sum_by}
use Rattle.std.proofs.Common.{◌≡◌, ℕ, ◌-◌, ◌<◌, ◌≤◌, inl, inr, true, false, get_or, refl, sym, ap, ◌∙◌, arith}
use Rattle.std.proofs.lemmas.List.FromFn.{get_or-range_with_len, length-range_with_len}
use Rattle.std.proofs.lemmas.List.Sums.{get_or-le-sum_by}
use Rattle.step_plan.proofs.Sums.{sum_by-filter, sum_by-same, sum_by_splits}

-- so much of one of them, if it is among them
abbrev chosen : (touched odd : Bool) → ℕ → ℕ
chosen touched odd amount = if touched then (if odd then amount else 0) else 0

chosen-le : (touched odd : Bool) (amount : ℕ) → chosen touched odd amount ≤ amount
chosen-le true true amount = omega arith
chosen-le true false amount = omega arith
chosen-le false odd amount = omega arith

chosen-zero : (touched odd : Bool) → chosen touched odd 0 ≡ 0
chosen-zero true true = refl
chosen-zero true false = refl
chosen-zero false odd = refl

chosen-not : (touched : Bool) (amount : ℕ) → chosen touched false amount ≡ 0
chosen-not true amount = refl
chosen-not false amount = refl

sum-chosen : (touched odd : ℕ → Bool) (f : ℕ → ℕ) (n : ℕ) →
    sum_by f (filter odd (filter touched (range_with_len 0 n))) ≡ sum_by (λ k. chosen (touched k) (odd k) (f k)) (range_with_len 0 n)
sum-chosen touched odd f n =
    sum_by-filter f odd (filter touched (range_with_len 0 n)) ∙ sum_by-filter (λ k. if odd k then f k else 0) touched (range_with_len 0 n)

pub in_range : (n : ℕ) → All (λ k. k < n) (range_with_len 0 n)
in_range n = λ k d within.
    let below : k < n = omega (arith, length-range_with_len 0 n) in
    let at = get_or-range_with_len 0 n k d below in omega arith

-- all others move nothing
pub sum-all : (touched odd : ℕ → Bool) (f : ℕ → ℕ) (n : ℕ) → ((k : ℕ) → k < n → (f k ≡ 0) ⊎ ((touched k ≡ true) × (odd k ≡ true))) →
    sum_by f (filter odd (filter touched (range_with_len 0 n))) ≡ sum_by f (range_with_len 0 n)
sum-all touched odd f n each =
    sum-chosen touched odd f n ∙ sum_by-same (λ k. k < n) (λ k. chosen (touched k) (odd k) (f k)) f (range_with_len 0 n)
    (λ k below. elim (each k below) [
      | inl none ↦ ap (chosen (touched k) (odd k)) none ∙ chosen-zero (touched k) (odd k) ∙ sym none
      | inr (here, other) ↦ ap (λ b. chosen b (odd k) (f k)) here ∙ ap (λ b. chosen true b (f k)) other
    ]) (in_range n)

-- one other moves all
pub sum-none : (touched odd : ℕ → Bool) (f : ℕ → ℕ) (n k : ℕ) → k < n → odd k ≡ false → sum_by f (range_with_len 0 n) ≡ f k →
    sum_by f (filter odd (filter touched (range_with_len 0 n))) ≡ 0
sum-none touched odd f n k below chained all =
    let among : ℕ → ℕ = λ m. chosen (touched m) (odd m) (f m) in
    let rest : ℕ → ℕ = λ m. f m - among m in
    let splits = sum_by_splits f among rest (range_with_len 0 n)
    (λ m. let le = chosen-le (touched m) (odd m) (f m) in omega arith) in
    let read : get_or (range_with_len 0 n) k 0 ≡ k = get_or-range_with_len 0 n k 0 below ∙ omega arith in
    let one = get_or-le-sum_by rest (range_with_len 0 n) k 0 (omega (arith, length-range_with_len 0 n, below)) in
    let here : rest k ≤ sum_by rest (range_with_len 0 n) = rw read at one in
    let none : among k ≡ 0 = ap (λ b. chosen (touched k) b (f k)) chained ∙ chosen-not (touched k) (f k) in
    sum-chosen touched odd f n ∙ omega arith

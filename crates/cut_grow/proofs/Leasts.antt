-- The least number below a bound that passes a test, of two tests and of a filter.
use Rattle.std.specs.Prelude.{◌&&◌, ◌||◌, min}
use Rattle.std.specs.List.{position_or_len, range_with_len}
use Rattle.std.proofs.Common.{◌≡◌, ℕ, ◌<◌, Bool, true, false, get_or, inl, inr, sym, refl, subst, ◌∙◌, zero-add, arith}
use Rattle.std.proofs.lemmas.Bool.{cases_lt, or_from, or_left, or_right}
use Rattle.std.proofs.lemmas.List.FromFn.{get_or-range_with_len, length-range_with_len}
use Rattle.std.proofs.lemmas.List.Sums.{position_or_len_is}
use Rattle.cut_grow.specs.Least.{IsLeast}

pub least-either : (n : ℕ) (p q : ℕ → Bool) (a b : ℕ) → IsLeast n p a → IsLeast n q b → IsLeast n (λ i. p i || q i) (min a b)
least-either n p q a b first second = record {
  within = omega (arith, first.within);
  before = λ i low. or_from (p i) (q i) (first.before i (omega arith)) (second.before i (omega arith));
  here = λ below. elim (cases_lt b a) [
    | inl less ↦
        let is : b ≡ min a b = omega arith in
        subst (λ m. (p m || q m) ≡ true) is (or_right (p b) (q b) (second.here (omega arith)))
    | inr most ↦
        let is : a ≡ min a b = omega arith in
        subst (λ m. (p m || q m) ≡ true) is (or_left (p a) (q a) (first.here (omega arith)))
  ];
}

pub least-agree : (n : ℕ) (p q : ℕ → Bool) (a : ℕ) → ((i : ℕ) → p i ≡ q i) → IsLeast n p a → IsLeast n q a
least-agree n p q a same least = record {
  within = least.within;
  before = λ i low. sym (same i) ∙ least.before i low;
  here = λ below. sym (same a) ∙ least.here below;
}

pub range-at : (n k : ℕ) → k < n → get_or (range_with_len 0 n) k 0 ≡ k
range-at n k within = get_or-range_with_len 0 n k 0 within ∙ zero-add k

-- it is the first of the numbers below the bound that passes
pub least-position : (n : ℕ) (p : ℕ → Bool) (a : ℕ) → IsLeast n p a → position_or_len p (range_with_len 0 n) ≡ a
least-position n p a least =
    position_or_len_is p (range_with_len 0 n) a 0 (omega (arith, length-range_with_len 0 n, least.within))
    (λ k low. subst (λ i. p i ≡ false) (sym (range-at n k (omega (arith, least.within)))) (least.before k low))
    (λ within.
    let below : a < n = omega (arith, length-range_with_len 0 n) in
    subst (λ i. p i ≡ true) (sym (range-at n a below)) (least.here below))

-- a test and either of two, or of three
pub and-either : (f a b : Bool) → ((f && a) || (f && b)) ≡ (f && (a || b))
and-either true a b = refl
and-either false a b = refl

pub and-any_of_three : (f a b c : Bool) → (((f && a) || (f && b)) || (f && c)) ≡ (f && (a || (b || (c || false))))
and-any_of_three false a b c = refl
and-any_of_three true true b c = refl
and-any_of_three true false true c = refl
and-any_of_three true false false true = refl
and-any_of_three true false false false = refl

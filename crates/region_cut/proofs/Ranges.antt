-- Filters of the numbers below a bound.
use Rattle.std.specs.Prelude.{eqb, cond, ◌&&◌}
use Rattle.std.specs.List.{Contains, filter, list_any, range_with_len}
use Rattle.std.specs.List.Sorted.{IsStrictlyIncreasing}
use Rattle.std.proofs.Common.{◌≡◌, ℕ, ◌<◌, ◌+◌, Bool, true, List, [], ◌∷◌, ◌++◌, zero-add, sym, ap, ◌∙◌, arith}
use Rattle.std.proofs.lemmas.Bool.{eqb-true}
use Rattle.std.proofs.lemmas.List.{map-id}
use Rattle.std.proofs.lemmas.List.FromFn.{filter_of_map_range_with_len_more, get_or-range_with_len, length-range_with_len}
use Rattle.std.proofs.lemmas.List.Kept.{IsStrictlyIncreasing-filter}
use Rattle.std.proofs.lemmas.Map.Views.{any-filter_same}
use Rattle.region_cut.proofs.Anys.{Contains-from_test, both, first_of_both, same_tests, second_of_both, test_from_Contains}
use Rattle.region_cut.proofs.Increasing.{same_increasing}

pub range-Contains : (n i : ℕ) → i < n → Contains (range_with_len 0 n) i
range-Contains n i within = (i, rw (length-range_with_len 0 n) within, get_or-range_with_len 0 n i i within ∙ zero-add i)

pub Contains-range : (n i : ℕ) → Contains (range_with_len 0 n) i → i < n
Contains-range n i has =
    let within : has.0 < n = rw (length-range_with_len 0 n) at has.1 in
    omega (arith, within, sym (get_or-range_with_len 0 n has.0 i within) ∙ has.2)

-- the numbers of a filter
filter_test : (p : ℕ → Bool) (xs : List ℕ) (i : ℕ) → list_any (eqb i) (filter p xs) ≡ (p i && list_any (eqb i) xs)
filter_test p xs i = any-filter_same (eqb i) p (p i) (λ k same. ap p (sym (eqb-true i k same))) xs

pub filter-Contains : (p : ℕ → Bool) (xs : List ℕ) (i : ℕ) → Contains xs i → p i ≡ true → Contains (filter p xs) i
filter-Contains p xs i has passes =
    Contains-from_test (filter p xs) i (filter_test p xs i ∙ both (p i) (list_any (eqb i) xs) passes (test_from_Contains xs i has))

pub Contains-filter : (p : ℕ → Bool) (xs : List ℕ) (i : ℕ) → Contains (filter p xs) i → Contains xs i × (p i ≡ true)
Contains-filter p xs i has =
    let all = sym (filter_test p xs i) ∙ test_from_Contains (filter p xs) i has in
    (Contains-from_test xs i (second_of_both (p i) (list_any (eqb i) xs) all), first_of_both (p i) (list_any (eqb i) xs) all)

pub filter_range-Contains : (p : ℕ → Bool) (n i : ℕ) → i < n → p i ≡ true → Contains (filter p (range_with_len 0 n)) i
filter_range-Contains p n i within passes = filter-Contains p (range_with_len 0 n) i (range-Contains n i within) passes

pub Contains-filter_range : (p : ℕ → Bool) (n i : ℕ) → Contains (filter p (range_with_len 0 n)) i → (i < n) × (p i ≡ true)
Contains-filter_range p n i has = let both = Contains-filter p (range_with_len 0 n) i has in (Contains-range n i both.0, both.1)

-- they rise
range-increasing : (n : ℕ) → IsStrictlyIncreasing (range_with_len 0 n)
range-increasing n = λ k within.
    let inside : k + 1 < n = rw (length-range_with_len 0 n) at within in
    omega (arith, get_or-range_with_len 0 n k 0 (omega arith), get_or-range_with_len 0 n (k + 1) 0 inside)

pub filter_range-increasing : (p : ℕ → Bool) (n : ℕ) → IsStrictlyIncreasing (filter p (range_with_len 0 n))
filter_range-increasing p n = IsStrictlyIncreasing-filter p (range_with_len 0 n) (range-increasing n)

-- an increasing list of the numbers below a bound that pass a test
pub filter_range_is : (p : ℕ → Bool) (n : ℕ) (xs : List ℕ) → IsStrictlyIncreasing xs → ((i : ℕ) → Contains xs i → (i < n) × (p i ≡ true)) →
    ((i : ℕ) → i < n → p i ≡ true → Contains xs i) → xs ≡ filter p (range_with_len 0 n)
filter_range_is p n xs up there back =
    same_increasing xs (filter p (range_with_len 0 n)) up (filter_range-increasing p n)
    (λ i. same_tests (list_any (eqb i) xs) (list_any (eqb i) (filter p (range_with_len 0 n)))
    (λ any. let here = there i (Contains-from_test xs i any) in test_from_Contains _ i (filter_range-Contains p n i here.0 here.1))
    (λ any. let here = Contains-filter_range p n i (Contains-from_test _ i any) in test_from_Contains xs i (back i here.0 here.1)))

-- one number more
pub filter_range_more : (p : ℕ → Bool) (n : ℕ) → filter p (range_with_len 0 (n + 1)) ≡ filter p (range_with_len 0 n) ++ cond (p n) (n ∷ []) []
filter_range_more p n = simp map-id at (filter_of_map_range_with_len_more p (λ x. x) 0 n n (zero-add n))

-- Increasing lists: one with the same numbers is the same list.
use Rattle.std.specs.Prelude.{eqb, ◌||◌, ◌==◌}
use Rattle.std.specs.List.{AllPairs, list_any, position_or_len}
use Rattle.std.specs.List.Sorted.{IsStrictlyIncreasing}
use Rattle.std.proofs.Common.{◌≡◌, ℕ, suc, ◌<◌, ◌≤◌, inl, inr, Bool, true, false, List, [], ◌∷◌, length, get_or, refl, sym, ◌∙◌, arith}
use Rattle.std.proofs.lemmas.Bool.{cases_Bool, cases_lt, eq-eqb, eqb-true}
use Rattle.std.proofs.lemmas.List.Kept.{AllPairs-from_increasing}
use Rattle.std.proofs.lemmas.List.Sums.{position_or_len_is}
use Rattle.region_cut.proofs.Anys.{Contains-from_test, apart}

abbrev Rises : List ℕ → Type 0
Rises xs = AllPairs (λ x y. x < y) xs

rises_on : (x : ℕ) (xs : List ℕ) → Rises (x ∷ xs) → Rises xs
rises_on x xs up = λ i j d before within. up (suc i) (suc j) d (omega arith) (omega arith)

-- the first is below each later one
below_rest : (x i : ℕ) (xs : List ℕ) → Rises (x ∷ xs) → list_any (eqb i) xs ≡ true → x < i
below_rest x i xs up any =
    let has = Contains-from_test xs i any in
    rw has.2 at (up 0 (suc has.0) i (omega arith) (omega (arith, has.1)))

not_rest : (x : ℕ) (xs : List ℕ) → Rises (x ∷ xs) → list_any (eqb x) xs ≡ false
not_rest x xs up = elim (cases_Bool (list_any (eqb x) xs)) [
  | inl any ↦ absurd (omega (arith, below_rest x x xs up any))
  | inr none ↦ none
]

abbrev Agree : List ℕ → List ℕ → Type 0
Agree xs ys = (i : ℕ) → list_any (eqb i) xs ≡ list_any (eqb i) ys

or_own : (x : ℕ) (rest : Bool) → (eqb x x || rest) ≡ true
or_own x rest = let own : eqb x x ≡ true = eq-eqb x x refl in rw own refl

-- the first of the one is no lower than the first of the other
no_lower : (x y : ℕ) (xs ys : List ℕ) → Rises (y ∷ ys) → Agree (x ∷ xs) (y ∷ ys) → eqb x y ≡ false → y < x
no_lower x y xs ys up agree other =
    let here : list_any (eqb x) (y ∷ ys) ≡ true = sym (agree x) ∙ or_own x (list_any (eqb x) xs) in
    below_rest y x ys up (rw other at here)

same_first : (x y : ℕ) (xs ys : List ℕ) → Rises (x ∷ xs) → Rises (y ∷ ys) → Agree (x ∷ xs) (y ∷ ys) → x ≡ y
same_first x y xs ys up other_up agree = elim (cases_Bool (eqb x y)) [
  | inl same ↦ eqb-true x y same
  | inr other ↦
      let back : eqb y x ≡ false = apart y x (λ same. absurd (omega (arith, no_lower x y xs ys other_up agree other))) in
      absurd (omega (arith, no_lower x y xs ys other_up agree other, no_lower y x ys xs up (λ i. sym (agree i)) back))
]

agree_on : (x : ℕ) (xs ys : List ℕ) → Rises (x ∷ xs) → Rises (x ∷ ys) → Agree (x ∷ xs) (x ∷ ys) → Agree xs ys
agree_on x xs ys up other_up agree = λ i. elim (cases_Bool (eqb i x)) [
  | inl same ↦
      let here : i ≡ x = eqb-true i x same in
      rw here (not_rest x xs up ∙ sym (not_rest x ys other_up))
  | inr other ↦ rw other at (agree i)
]

same_rising : (xs ys : List ℕ) → Rises xs → Rises ys → Agree xs ys → xs ≡ ys
same_rising [] [] up other_up agree = refl
same_rising [] (y ∷ ys) up other_up agree = let none = agree y in let own = or_own y (list_any (eqb y) ys) in cc
same_rising (x ∷ xs) [] up other_up agree = let none = agree x in let own = or_own x (list_any (eqb x) xs) in cc
same_rising (x ∷ xs) (y ∷ ys) up other_up agree =
    let first : x ≡ y = same_first x y xs ys up other_up agree in
    let back = sym first in
    let rest : xs ≡ ys = same_rising xs ys (rises_on x xs up) (rises_on y ys other_up)
    (agree_on x xs ys up (rw back at other_up) (rw back at agree)) in
    cc

-- increasing lists of the same numbers
pub same_increasing : (xs ys : List ℕ) → IsStrictlyIncreasing xs → IsStrictlyIncreasing ys → ((i : ℕ) → list_any (eqb i) xs ≡ list_any (eqb i) ys) → xs ≡ ys
same_increasing xs ys up other_up agree = same_rising xs ys (AllPairs-from_increasing xs up) (AllPairs-from_increasing ys other_up) agree

pub rising : (xs : List ℕ) → IsStrictlyIncreasing xs → (i j : ℕ) → i ≤ j → j < length xs → get_or xs i 0 ≤ get_or xs j 0
rising xs up i j behind within = elim (cases_lt i j) [
  | inl before ↦ omega (arith, AllPairs-from_increasing xs up i j 0 before within)
  | inr not_before ↦ let same : i ≡ j = omega arith in rw same (omega arith)
]

-- the place of a number in an increasing list is the first place at which it stands
pub position_is : (xs : List ℕ) (k x : ℕ) → IsStrictlyIncreasing xs → k < length xs → get_or xs k 0 ≡ x → position_or_len (λ j. j == x) xs ≡ k
position_is xs k x up within here =
    position_or_len_is (λ j. j == x) xs k 0 (omega arith)
    (λ i before. apart (get_or xs i 0) x (λ same. absurd (omega (arith, AllPairs-from_increasing xs up i k 0 before within, same, here))))
    (λ inside. eq-eqb (get_or xs k 0) x here)

-- Sums over the cells of each connector, as sums over all cells.
use Rattle.std.specs.Prelude.{All, count_by, eqb, sum_by, if◌then◌else◌, ◌==◌}
use Rattle.std.specs.List.{IsDistinct, list_any, range_with_len}
use Rattle.std.proofs.Common.{◌≡◌, inl, inr, ℕ, Bool, true, false, ◌+◌, ◌<◌, ◌≤◌, ◌*◌, List, [], ◌∷◌, arith, sym, subst, ap, ◌∙◌}
use Rattle.std.proofs.lemmas.Bool.{cases_Bool, cases_eq, eq-eqb, ne_eqb}
use Rattle.std.proofs.lemmas.List.Elements.{All-head, All-tail}
use Rattle.std.proofs.lemmas.List.FromFn.{get_or-range_with_len, length-range_with_len}
use Rattle.std.proofs.lemmas.List.Sums.{sum_by-cons}
use Rattle.step_plan.proofs.Sums.{count_by-cons, sum_by-same, sum_by-swap, sum_by-zero, sum_by_range_one, sum_by_splits}
use Rattle.flow_model.proofs.Connectors.{absent}

-- the numbers below n are below n
pub All-below : (n : ℕ) → All (λ i. i < n) (range_with_len 0 n)
All-below n = λ k d within.
    let inside : k < n = omega (arith, length-range_with_len 0 n) in omega (arith, get_or-range_with_len 0 n k d inside)

-- the part of cell i in a list of distinct cells, and in the rest of the list
part-cons : (f : ℕ → ℕ) (cell i : ℕ) (cells : List ℕ) → list_any (eqb cell) cells ≡ false →
    (if list_any (eqb i) (cell ∷ cells) then f i else 0) ≡ (if cell == i then f cell else 0) + (if list_any (eqb i) cells then f i else 0)
part-cons f cell i cells apart = elim (cases_eq i cell) [
  | inl same ↦
      let here : (i == cell) ≡ true = eq-eqb i cell same in
      let back : (cell == i) ≡ true = eq-eqb cell i (sym same) in
      let others : list_any (eqb i) cells ≡ false = subst (λ j. list_any (eqb j) cells ≡ false) (sym same) apart in
      rw (here, back, others) (omega (arith, ap f same))
  | inr differ ↦
      let here : (i == cell) ≡ false = ne_eqb i cell differ in
      let back : (cell == i) ≡ false = ne_eqb cell i (λ same. differ (sym same)) in
      rw (here, back) (omega arith)
]

-- a sum over distinct cells, as a sum over all
sum_by-listed : (f : ℕ → ℕ) (n : ℕ) (cells : List ℕ) → IsDistinct eqb cells → All (λ i. i < n) cells →
    sum_by f cells ≡ sum_by (λ i. if list_any (eqb i) cells then f i else 0) (range_with_len 0 n)
unfolding IsDistinct
sum_by-listed f n [] apart there = sym (sum_by-zero (λ i. 0) (range_with_len 0 n) (λ k d within. omega arith))
sum_by-listed f n (cell ∷ cells) apart there =
    let one : ℕ → ℕ = λ i. if cell == i then f cell else 0 in
    let rest : ℕ → ℕ = λ i. if list_any (eqb i) cells then f i else 0 in
    let part : ℕ → ℕ = λ i. if list_any (eqb i) (cell ∷ cells) then f i else 0 in
    omega (
      arith,
      sum_by-cons f cell cells,
      sum_by_splits part one rest (range_with_len 0 n) (λ i. part-cons f cell i cells (absent cell cells apart.0)),
      sum_by_range_one (f cell) cell 0 n (omega arith) (omega (arith, All-head (λ i. i < n) cell cells there)),
      sum_by-listed f n cells apart.1 (All-tail (λ i. i < n) cell cells there),
    )

passing-more : (passes : Bool) (value count : ℕ) → (if passes then value else 0) + count * value ≡ ((if passes then 1 else 0) + count) * value
passing-more true value count = omega arith
passing-more false value count = omega arith

-- where an item passes, so many times the value as items pass
sum_by-passing : {X : Type 0} (p : X → Bool) (value : ℕ) (xs : List X) → sum_by (λ x. if p x then value else 0) xs ≡ count_by p xs * value
sum_by-passing p value [] = omega arith
sum_by-passing p value (x ∷ xs) =
    rw (sum_by-cons (λ y. if p y then value else 0) x xs, count_by-cons p x xs, sum_by-passing p value xs) (passing-more (p x) value (count_by p xs))

count_by-any : {X : Type 0} (p : X → Bool) (xs : List X) → list_any p xs ≡ true → 1 ≤ count_by p xs
count_by-any p [] some = cc
count_by-any p (x ∷ xs) some = elim (cases_Bool (p x)) [
  | inl passes ↦ rw (count_by-cons p x xs, passes) (omega arith)
  | inr fails ↦ rw (count_by-cons p x xs, fails) (omega (arith, count_by-any p xs (rw fails at some)))
]

-- a value by the items that pass, of which there is one at most, and where there is none the value is 0
sum_by-passes : {X : Type 0} (p : X → Bool) (value : ℕ) (xs : List X) → count_by p xs ≤ 1 → (list_any p xs ≡ false → value ≡ 0) →
    sum_by (λ x. if p x then value else 0) xs ≡ value
sum_by-passes p value xs one none = elim (cases_Bool (list_any p xs)) [
  | inl some ↦
      let once : count_by p xs ≡ 1 = omega (arith, count_by-any p xs some) in
      sum_by-passing p value xs ∙ rw once (omega arith)
  | inr fail ↦ rw (none fail) (sum_by-passing p 0 xs ∙ omega arith)
]

-- a sum over the lists of cells of all connectors is the sum over all cells, where a cell is in one list at most, and in none has nothing
pub sum_by-lists : {X : Type 0} (cells_of : X → List ℕ) (f : ℕ → ℕ) (n : ℕ) (xs : List X) →
    All (λ x. IsDistinct eqb (cells_of x) × All (λ i. i < n) (cells_of x)) xs →
    ((i : ℕ) → count_by (λ x. list_any (eqb i) (cells_of x)) xs ≤ 1) →
    ((i : ℕ) → i < n → list_any (λ x. list_any (eqb i) (cells_of x)) xs ≡ false → f i ≡ 0) →
    sum_by (λ x. sum_by f (cells_of x)) xs ≡ sum_by f (range_with_len 0 n)
sum_by-lists {X = X} cells_of f n xs sound one none =
    let part : X → ℕ → ℕ = λ x i. if list_any (eqb i) (cells_of x) then f i else 0 in
    sum_by-same (λ x. IsDistinct eqb (cells_of x) × All (λ i. i < n) (cells_of x)) (λ x. sum_by f (cells_of x)) (λ x. sum_by (part x) (range_with_len 0 n)) xs
    (λ x fits. sum_by-listed f n (cells_of x) fits.0 fits.1) sound ∙
    sum_by-swap part xs (range_with_len 0 n) ∙
    sum_by-same (λ i. i < n) (λ i. sum_by (λ x. part x i) xs) f (range_with_len 0 n) (λ i within. sum_by-passes (λ x. list_any (eqb i) (cells_of x)) (f i) xs (one i) (none i within)) (All-below n)

-- Lists of which one item is changed.
use Rattle.std.specs.Prelude.{sum_by}
use Rattle.std.specs.List.{Contains}
use Rattle.std.proofs.Common.{◌≡◌, ◌⊎◌, ℕ, zero, suc, ◌+◌, inl, inr, List, [], ◌∷◌, set, refl, sym, ap, ◌∙◌, arith}
use Rattle.std.proofs.lemmas.List.Sums.{sum_by-cons}
use mathlib.Core.Option.{some, some-injective}
use lib.ListN.{get_elem?}

-- of a list an item is the first or a later one
pub Contains-cons : {X : Type 0} (x y : X) (xs : List X) → Contains (y ∷ xs) x → (x ≡ y) ⊎ Contains xs x
Contains-cons x y xs (zero, within, is) = inl (sym is)
Contains-cons x y xs (suc k, within, is) = inr (k, omega (arith, within), is)

-- an item that stands there is one of the list
pub Contains-elem : {X : Type 0} (xs : List X) (i : ℕ) (x : X) → get_elem? xs i ≡ some x → Contains xs x
Contains-elem [] i x is = absurd cc
Contains-elem (y ∷ ys) zero x is = (0, omega arith, some-injective y x is)
Contains-elem (y ∷ ys) (suc i) x is = let later = Contains-elem ys i x is in (suc later.0, omega (arith, later.1), later.2)

-- of the changed list an item is the new one or one of before
pub Contains-set : {X : Type 0} (xs : List X) (i : ℕ) (x v : X) → Contains (set xs i x) v → (v ≡ x) ⊎ Contains xs v
Contains-set [] i x v has = inr has
Contains-set (y ∷ ys) zero x v (zero, within, is) = inl (sym is)
Contains-set (y ∷ ys) zero x v (suc k, within, is) = inr (suc k, omega (arith, within), is)
Contains-set (y ∷ ys) (suc i) x v (zero, within, is) = inr (0, omega arith, is)
Contains-set (y ∷ ys) (suc i) x v (suc k, within, is) = elim (Contains-set ys i x v (k, omega (arith, within), is)) [
  | inl new ↦ inl new
  | inr old ↦ inr (suc old.0, omega (arith, old.1), old.2)
]

-- the new item is there
pub set-Contains : {X : Type 0} (xs : List X) (i : ℕ) (x old : X) → get_elem? xs i ≡ some old → Contains (set xs i x) x
set-Contains [] i x old is = absurd cc
set-Contains (y ∷ ys) zero x old is = (0, omega arith, refl)
set-Contains (y ∷ ys) (suc i) x old is = let later = set-Contains ys i x old is in (suc later.0, omega (arith, later.1), later.2)

-- another item stays
pub set-keeps : {X : Type 0} (xs : List X) (i : ℕ) (x old v : X) → get_elem? xs i ≡ some old → Contains xs v → (v ≡ old) ⊎ Contains (set xs i x) v
set-keeps [] i x old v is has = inr has
set-keeps (y ∷ ys) zero x old v is (zero, within, here) = inl (sym here ∙ some-injective y old is)
set-keeps (y ∷ ys) zero x old v is (suc k, within, here) = inr (suc k, omega (arith, within), here)
set-keeps (y ∷ ys) (suc i) x old v is (zero, within, here) = inr (0, omega arith, here)
set-keeps (y ∷ ys) (suc i) x old v is (suc k, within, here) = elim (set-keeps ys i x old v is (k, omega (arith, within), here)) [
  | inl same ↦ inl same
  | inr later ↦ inr (suc later.0, omega (arith, later.1), later.2)
]

-- a sum changes by what the item counts
pub sum-set : {X : Type 0} (f : X → ℕ) (xs : List X) (i : ℕ) (x old : X) → get_elem? xs i ≡ some old → sum_by f (set xs i x) + f old ≡ sum_by f xs + f x
sum-set f [] i x old is = absurd cc
sum-set f (y ∷ ys) zero x old is =
    let same : f y ≡ f old = ap f (some-injective y old is) in
    let new : sum_by f (x ∷ ys) ≡ f x + sum_by f ys = sum_by-cons f x ys in
    let before : sum_by f (y ∷ ys) ≡ f y + sum_by f ys = sum_by-cons f y ys in
    omega (arith, same, new, before)
sum-set f (y ∷ ys) (suc i) x old is =
    let new : sum_by f (y ∷ set ys i x) ≡ f y + sum_by f (set ys i x) = sum_by-cons f y (set ys i x) in
    let before : sum_by f (y ∷ ys) ≡ f y + sum_by f ys = sum_by-cons f y ys in
    omega (arith, new, before, sum-set f ys i x old is)

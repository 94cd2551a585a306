-- Tests that find an element of a list.
use Rattle.std.specs.Prelude.{eqb, map, not, ◌&&◌, ◌||◌}
use Rattle.std.specs.List.{Contains, list_any}
use Rattle.std.proofs.Common.{◌≡◌, ℕ, inl, inr, Bool, true, false, List, [], ◌∷◌, sym, refl, subst, ap}
use Rattle.std.proofs.lemmas.Bool.{cases_Bool, eq-eqb, eqb-true}
use Rattle.std.proofs.lemmas.List.Folds.{Any-from_list_any, list_any_at}

-- tests that are true together

pub both : (a b : Bool) → a ≡ true → b ≡ true → (a && b) ≡ true
both true b left right = right
both false b left right = cc

pub first_of_both : (a b : Bool) → (a && b) ≡ true → a ≡ true
first_of_both true b all = refl
first_of_both false b all = cc

pub second_of_both : (a b : Bool) → (a && b) ≡ true → b ≡ true
second_of_both true b all = all
second_of_both false b all = cc

pub not_false : (a : Bool) → a ≡ false → not a ≡ true
not_false true none = cc
not_false false none = refl

pub false_from_not : (a : Bool) → not a ≡ true → a ≡ false
false_from_not true none = cc
false_from_not false none = refl

pub same_tests : (a b : Bool) → (a ≡ true → b ≡ true) → (b ≡ true → a ≡ true) → a ≡ b
same_tests true b there back = sym (there refl)
same_tests false true there back = back refl
same_tests false false there back = refl

-- numbers that differ
pub apart : (a b : ℕ) → (a ≡ b → ⊥) → eqb a b ≡ false
apart a b differ = elim (cases_Bool (eqb a b)) [ inl same ↦ absurd (differ (eqb-true a b same)) | inr other ↦ other ]

pub not_same : (a b : ℕ) → eqb a b ≡ false → a ≡ b → ⊥
not_same a b other same = let equal : eqb a b ≡ true = eq-eqb a b same in cc

-- what a test finds, and that it finds it
pub found : {X : Type 0} (p : X → Bool) (xs : List X) → list_any p xs ≡ true → (x : X) × Contains xs x × (p x ≡ true)
found p xs any = let here = Any-from_list_any p xs any in (here.1, (here.0, here.2, here.3), here.4)

pub finds : {X : Type 0} (p : X → Bool) (xs : List X) (x : X) → Contains xs x → p x ≡ true → list_any p xs ≡ true
finds p xs x has passes = list_any_at p xs has.0 x has.1 (rw has.2 passes)

pub list_any-map : {X Y : Type 0} (p : Y → Bool) (f : X → Y) (xs : List X) → list_any p (map f xs) ≡ list_any (λ x. p (f x)) xs
list_any-map p f [] = refl
list_any-map p f (x ∷ xs) = ap (λ rest. p (f x) || rest) (list_any-map p f xs)

-- a number is in a list where the test for it finds it
pub Contains-from_test : (xs : List ℕ) (i : ℕ) → list_any (eqb i) xs ≡ true → Contains xs i
Contains-from_test xs i any =
    let here = found (eqb i) xs any in
    subst (Contains xs) (sym (eqb-true i here.0 here.2)) here.1

pub test_from_Contains : (xs : List ℕ) (i : ℕ) → Contains xs i → list_any (eqb i) xs ≡ true
test_from_Contains xs i has = finds (eqb i) xs i has (eq-eqb i i refl)

-- lists in which each number is found alike pass each test alike
pub same_found : (xs ys : List ℕ) → ((i : ℕ) → Contains xs i → Contains ys i) → ((i : ℕ) → Contains ys i → Contains xs i) → (p : ℕ → Bool) → list_any p xs ≡ list_any p ys
same_found xs ys there back p =
    same_tests (list_any p xs) (list_any p ys)
    (λ any. let here = found p xs any in finds p ys here.0 (there here.0 here.1) here.2)
    (λ any. let here = found p ys any in finds p xs here.0 (back here.0 here.1) here.2)

-- The middle of three values is one of them, and lies between each two.
use Rattle.std.proofs.Common.{◌≡◌, ◌⊎◌, inl, inr, refl, ◌∙◌, ℤ, true, false, cond, arith, int_lt}
use Rattle.std.proofs.lemmas.Int.{ints, clamps}
use Rattle.std.specs.Int.{int_min, int_max}
use Rattle.fixed_flow.specs.Middle.{middle_of}
use Rattle.fixed_flow.specs.Between.{IsBetween, IsOneOf}

int_min_picks : (x y : ℤ) → (int_min x y ≡ x) ⊎ (int_min x y ≡ y)
int_min_picks x y = elim (int_lt y x) as (λ t. (cond t y x ≡ x) ⊎ (cond t y x ≡ y)) [ true ↦ inr refl | false ↦ inl refl ]

int_max_picks : (x y : ℤ) → (int_max x y ≡ x) ⊎ (int_max x y ≡ y)
int_max_picks x y = elim (int_lt y x) as (λ t. (cond t x y ≡ x) ⊎ (cond t x y ≡ y)) [ true ↦ inl refl | false ↦ inr refl ]

int_min_one : (a b c m : ℤ) → m ≡ int_min a b → IsOneOf a b c m
int_min_one a b c m e = elim (int_min_picks a b) [ inl at_a ↦ inl (e ∙ at_a) | inr at_b ↦ inr (inl (e ∙ at_b)) ]

int_max_one : (a b c m : ℤ) → m ≡ int_max a b → IsOneOf a b c m
int_max_one a b c m e = elim (int_max_picks a b) [ inl at_a ↦ inl (e ∙ at_a) | inr at_b ↦ inr (inl (e ∙ at_b)) ]

pub middle_of-one : (a b c : ℤ) → IsOneOf a b c (middle_of a b c)
unfolding middle_of
middle_of-one a b c =
    elim (int_max_picks (int_min a b) (int_min (int_max a b) c)) [
      | inl low ↦ int_min_one a b c _ low
      | inr capped ↦ elim (int_min_picks (int_max a b) c) [ inl high ↦ int_max_one a b c _ (capped ∙ high) | inr at_c ↦ inr (inr (capped ∙ at_c)) ]
    ]

pub middle_of-between : (a b c : ℤ) → IsBetween a b (middle_of a b c) × IsBetween a c (middle_of a b c) × IsBetween b c (middle_of a b c)
unfolding middle_of
middle_of-between a b c = ((omega (arith, ints, clamps), omega (arith, ints, clamps)), (omega (arith, ints, clamps), omega (arith, ints, clamps)), (omega (arith, ints, clamps), omega (arith, ints, clamps)))

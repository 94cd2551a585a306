-- Two sums beside one another.
use Rattle.std.specs.Prelude.{All, slice_get, sum_by, Some}
use Rattle.std.proofs.Common.{◌≡◌, ℕ, suc, ◌≤◌, List, [], ◌∷◌, length, arith, refl}
use Rattle.std.proofs.lemmas.List.Elements.{All-head, All-tail}
use Rattle.std.proofs.lemmas.List.Sums.{sum_by-cons}

-- a sum whose terms are no less
pub sum_by-no_less : {X : Type 0} (P : X → Type 0) (f g : X → ℕ) (xs : List X) → ((x : X) → P x → f x ≤ g x) → All P xs →
    sum_by f xs ≤ sum_by g xs
sum_by-no_less P f g [] each all = omega arith
sum_by-no_less P f g (x ∷ xs) each all =
    omega (
      arith,
      sum_by-cons f x xs,
      sum_by-cons g x xs,
      each x (All-head P x xs all),
      sum_by-no_less P f g xs each (All-tail P x xs all),
    )

-- sums over two lists whose terms agree place by place
pub sum_by-beside : {X : Type 0} (f : X → ℕ) (xs ys : List X) → length ys ≡ length xs →
    ((i : ℕ) (a b : X) → slice_get xs i ≡ Some a → slice_get ys i ≡ Some b → f b ≡ f a) → sum_by f ys ≡ sum_by f xs
sum_by-beside f [] [] long each = refl
sum_by-beside f [] (y ∷ ys) long each = absurd (omega arith)
sum_by-beside f (x ∷ xs) [] long each = absurd (omega arith)
sum_by-beside f (x ∷ xs) (y ∷ ys) long each =
    omega (
      arith,
      sum_by-cons f x xs,
      sum_by-cons f y ys,
      each 0 x y refl refl,
      sum_by-beside f xs ys (omega arith) (λ i. each (suc i)),
    )

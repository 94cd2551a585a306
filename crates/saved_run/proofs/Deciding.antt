-- What tests decide that are made of others.
use Rattle.std.specs.Prelude.{All, Decides, not, nat_le, ◌==◌, ◌||◌}
use Rattle.std.specs.List.{list_all, range_with_len}
use Rattle.std.proofs.Common.{◌≡◌, ℕ, ◌<◌, ◌≤◌, Bool, true, false, List, get_or, refl, sym, subst, arith}
use Rattle.std.proofs.lemmas.Bool.{eq-eqb, eqb-true, false≢true, le-leb, leb-true, true≢false}
use Rattle.std.proofs.lemmas.Bool.Decides.{Decides-by_and, Decides-like}
use Rattle.std.proofs.lemmas.List.FromFn.{get_or-range_with_len, length-range_with_len}

pub decides_le : (a b : ℕ) → Decides (nat_le a b) (a ≤ b)
decides_le a b = (leb-true a b, le-leb a b)

pub decides_eq : (a b : ℕ) → Decides (a == b) (a ≡ b)
decides_eq a b = (eqb-true a b, eq-eqb a b)

pub decides_if : {P : Type 0} (test claim : Bool) → Decides claim P → Decides (not test || claim) (test ≡ true → P)
decides_if true claim decides = (λ is passed. decides.0 is, λ holds. decides.1 (holds refl))
decides_if false claim decides = (λ is passed. absurd (false≢true passed), λ holds. refl)

pub decides_unless : {P : Type 0} (test claim : Bool) → Decides claim P → Decides (test || claim) (test ≡ false → P)
decides_unless true claim decides = (λ is failed. absurd (true≢false failed), λ holds. refl)
decides_unless false claim decides = (λ is failed. decides.0 is, λ holds. decides.1 (holds refl))

-- of each element of a list
pub decides_all : {X : Type 0} (p : X → Bool) (P : X → Type 0) → ((x : X) → Decides (p x) (P x)) → (xs : List X) → Decides (list_all p xs) (All P xs)
decides_all p P each xs = Decides-by_and p P (list_all p) each refl (λ x rest. refl) xs

-- of each number below another
pub decides_below : (p : ℕ → Bool) (P : ℕ → Type 0) → ((i : ℕ) → Decides (p i) (P i)) → (n : ℕ) → Decides (list_all p (range_with_len 0 n)) ((i : ℕ) → i < n → P i)
decides_below p P each n = Decides-like _ to from (decides_all p P each (range_with_len 0 n))
  where
    to : All P (range_with_len 0 n) → (i : ℕ) → i < n → P i
    to all i within =
        let is : get_or (range_with_len 0 n) i 0 ≡ i = omega (arith, get_or-range_with_len 0 n i 0 within) in
        subst P is (all i 0 (omega (arith, within, length-range_with_len 0 n)))

    from : ((i : ℕ) → i < n → P i) → All P (range_with_len 0 n)
    from below i d inside =
        let within : i < n = omega (arith, inside, length-range_with_len 0 n) in
        let is : get_or (range_with_len 0 n) i d ≡ i = omega (arith, get_or-range_with_len 0 n i d within) in
        subst P (sym is) (below i within)

-- A list that grows by one element after the other.
use Rattle.std.proofs.Common.{◌≡◌, ℕ, ◌+◌, ◌<◌, List, [], ◌∷◌, ◌++◌, length, get_or, inl, inr, subst, arith}
use Rattle.std.proofs.lemmas.Bool.{cases_lt}
use Rattle.std.proofs.lemmas.List.{get_or_append_left, get_or_push}

-- what holds of each at its place
pub each_push : {X : Type 0} (P : ℕ → X → Type 0) (xs : List X) (x d : X) (n : ℕ) → length xs ≡ n → ((p : ℕ) → p < n → P p (get_or xs p d)) → P n x →
    (p : ℕ) → p < n + 1 → P p (get_or (xs ++ x ∷ []) p d)
each_push P xs x d n long each last p within = elim (cases_lt p n) [
  | inl early ↦ rw (get_or_append_left xs (x ∷ []) d p (omega arith)) (each p early)
  | inr late ↦
      let e : n ≡ p = omega arith in
      subst (λ q. P q (get_or (xs ++ x ∷ []) q d)) e (rw (get_or_push xs x d n long) last)
]

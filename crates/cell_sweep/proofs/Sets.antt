-- A list in which the elements are set one after the other.
use Rattle.std.proofs.Common.{◌≡◌, ℕ, ◌+◌, ◌<◌, ◌≤◌, List, length, ◌∙◌, subst, inl, inr, arith}
use Rattle.std.proofs.Math.ListN.{get_or, set}
use Rattle.std.proofs.lemmas.Bool.{cases_lt}
use Rattle.std.proofs.lemmas.List.{get_or-set_same, get_or-set_other}

-- all below p were set as they should be, and so is p now
pub done_more : {X : Type 0} → (value : ℕ → X) (xs : List X) (p : ℕ) (x d : X) → p < length xs → x ≡ value p →
    ((k : ℕ) → k < p → get_or xs k d ≡ value k) → (k : ℕ) → k < p + 1 → get_or (set xs p x) k d ≡ value k
done_more value xs p x d room is before k lt = elim (cases_lt k p) [
  | inl early ↦ get_or-set_other xs p k x d (omega arith) ∙ before k early
  | inr late ↦
      let e : p ≡ k = omega arith in
      subst (λ j. get_or (set xs p x) j d ≡ value j) e (get_or-set_same xs p x d room ∙ is)
]

-- those behind p are as they were
pub rest_more : {X : Type 0} → (value : ℕ → X) (xs : List X) (p : ℕ) (x d : X) →
    ((k : ℕ) → p ≤ k → get_or xs k d ≡ value k) → (k : ℕ) → p + 1 ≤ k → get_or (set xs p x) k d ≡ value k
rest_more value xs p x d rest k past = get_or-set_other xs p k x d (omega arith) ∙ rest k (omega arith)

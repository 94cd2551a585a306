-- The regions of sweeps, in the order of their turns.
use Rattle.std.specs.Prelude.{IsTrue}
use Rattle.std.specs.List.{range_with_len}
use Rattle.std.proofs.Common.{◌≡◌, ◌↔◌, ◌≢◌, ℕ, suc, ◌+◌, ◌-◌, ◌≤◌, Bool, true, false, List, [], ◌∷◌, ◌++◌, map, refl, sym, ap, subst, ◌∙◌, arith}
use Rattle.std.proofs.lemmas.List.{append-nil, append_assoc, map-id}
use Rattle.std.proofs.lemmas.List.FromFn.{map-range_with_len_more}
use Rattle.worker_claim.specs.Driving.{round_from}

range-push : (a n j : ℕ) → a + n ≡ j → range_with_len a (n + 1) ≡ range_with_len a n ++ j ∷ []
range-push a n j is = sym (map-id (range_with_len a (n + 1))) ∙ map-range_with_len_more (λ i. i) a n j is ∙ ap (λ l. l ++ j ∷ []) (map-id (range_with_len a n))

-- no region yet
pub order-none : (tried : List ℕ) (from : ℕ) → tried ≡ tried ++ range_with_len from (from - from)
order-none tried from = let none : from - from ≡ 0 = omega arith in sym (ap (λ n. tried ++ range_with_len from n) none ∙ append-nil tried)

-- the next one
pub order-more : (old between new : List ℕ) (from at : ℕ) → from ≤ at → between ≡ old ++ range_with_len from (at - from) → new ≡ between ++ at ∷ [] → new ≡ old ++ range_with_len from (at + 1 - from)
order-more old between new from at low before one =
    let next : at + 1 - from ≡ at - from + 1 = omega (arith, low) in
    one ∙ ap (λ l. l ++ at ∷ []) before ∙ append_assoc old (range_with_len from (at - from)) (at ∷ []) ∙
    ap (λ l. old ++ l) (sym (ap (range_with_len from) next ∙ range-push from (at - from) at (omega (arith, low))))

-- those from the first on, and then those before it
pub order-round : (old between new : List ℕ) (count regions first : ℕ) → regions ≡ count → between ≡ old ++ range_with_len first (regions - first) → new ≡ between ++ range_with_len 0 (first - 0) →
    new ≡ old ++ round_from count first
order-round old between new count regions first are later earlier =
    let all : first - 0 ≡ first = omega arith in
    earlier ∙ ap (λ l. l ++ range_with_len 0 (first - 0)) later ∙ append_assoc old (range_with_len first (regions - first)) (range_with_len 0 (first - 0)) ∙
    ap (λ n. old ++ (range_with_len first (n - first) ++ range_with_len 0 (first - 0))) are ∙ ap (λ n. old ++ (range_with_len first (count - first) ++ range_with_len 0 n)) all

-- what isn't false is true
pub true-unless : (b : Bool) → (b ≡ false → ⊥) → IsTrue b
true-unless true unfalse = refl
true-unless false unfalse = absurd (unfalse refl)

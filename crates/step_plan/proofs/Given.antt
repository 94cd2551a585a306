-- What records give together, of two lists one after the other, by the last record, and as a sum.
use Rattle.std.specs.Prelude.{Bool, if◌then◌else◌, None, Some, reverse, sum_by}
use Rattle.std.specs.List.{find}
use Rattle.std.specs.Option.{option_map, option_or}
use Rattle.std.proofs.Common.{◌≡◌, ℕ, true, false, ◌+◌, ◌<◌, ◌≤◌, List, [], ◌∷◌, ◌++◌, length, get_or, arith, refl, sym, ap, subst, ◌∙◌, take, drop}
use Rattle.std.proofs.lemmas.List.{take-append-drop}
use Rattle.std.proofs.lemmas.List.Sums.{sum_by-cons}
use Rattle.step_plan.specs.Given.{given_by}
use Rattle.step_plan.proofs.Searches.{last_found-append}

pub given_by-append : {R X : Type 0} (none : X) (joined : X → X → X) (speaks : R → ℕ → Bool) (gives : R → X) (xs ys : List R) (t : ℕ) →
    ((x : X) → joined none x ≡ x) → ((a b c : X) → joined (joined a b) c ≡ joined a (joined b c)) →
    given_by none joined speaks gives (xs ++ ys) t ≡ joined (given_by none joined speaks gives xs t) (given_by none joined speaks gives ys t)
given_by-append none joined speaks gives [] ys t first associative = sym (first (given_by none joined speaks gives ys t))
given_by-append none joined speaks gives (x ∷ xs) ys t first associative =
    ap (joined (if speaks x t then gives x else none)) (given_by-append none joined speaks gives xs ys t first associative) ∙
    sym (associative (if speaks x t then gives x else none) (given_by none joined speaks gives xs t) (given_by none joined speaks gives ys t))

-- by a record alone
pub given_by-one : {R X : Type 0} (none : X) (joined : X → X → X) (speaks : R → ℕ → Bool) (gives : R → X) (xs : List R) (x : R) (t : ℕ) →
    ((given : X) → joined given none ≡ given) → 1 ≤ length xs → length xs < 2 → x ≡ get_or xs 0 x →
    (if speaks x t then gives x else none) ≡ given_by none joined speaks gives xs t
given_by-one none joined speaks gives [] x t last some few is = absurd (omega arith)
given_by-one none joined speaks gives (y ∷ []) x t last some few is =
    ap (λ r. if speaks r t then gives r else none) is ∙ sym (last (if speaks y t then gives y else none))
given_by-one none joined speaks gives (y ∷ z ∷ zs) x t last some few is = absurd (omega arith)

-- in a list that is split in two
pub given_by-split : {R X : Type 0} (none : X) (joined : X → X → X) (speaks : R → ℕ → Bool) (gives : R → X) (xs front back : List R) (n t : ℕ) →
    ((x : X) → joined none x ≡ x) → ((a b c : X) → joined (joined a b) c ≡ joined a (joined b c)) → front ≡ take n xs → back ≡ drop n xs →
    joined (given_by none joined speaks gives front t) (given_by none joined speaks gives back t) ≡ given_by none joined speaks gives xs t
given_by-split none joined speaks gives xs front back n t first associative is_front is_back =
    let whole : front ++ back ≡ xs = rw (is_front, is_back) (take-append-drop n xs) in
    sym (given_by-append none joined speaks gives front back t first associative) ∙ ap (λ all. given_by none joined speaks gives all t) whole

-- what fits together fits in each part
pub given_by-parts_fit : {R X : Type 0} (Fits : X → Type 0) (none : X) (joined : X → X → X) (speaks : R → ℕ → Bool) (gives : R → X) (xs front back : List R) (n t : ℕ) →
    ((x : X) → joined none x ≡ x) → ((a b c : X) → joined (joined a b) c ≡ joined a (joined b c)) → ((a b : X) → Fits (joined a b) → Fits a × Fits b) →
    front ≡ take n xs → back ≡ drop n xs → Fits (given_by none joined speaks gives xs t) →
    Fits (given_by none joined speaks gives front t) × Fits (given_by none joined speaks gives back t)
given_by-parts_fit Fits none joined speaks gives xs front back n t first associative parts is_front is_back fits =
    parts (given_by none joined speaks gives front t) (given_by none joined speaks gives back t)
    (subst Fits (sym (given_by-split none joined speaks gives xs front back n t first associative is_front is_back)) fits)

-- where the newer record holds, what the last one that speaks of the step gives
pub given_by-last : {R Y : Type 0} (value : R → Y) (speaks : R → ℕ → Bool) (xs : List R) (t : ℕ) →
    given_by None (λ older newer. option_or newer older) speaks (λ r. Some (value r)) xs t ≡ option_map value (find (λ r. speaks r t) (reverse xs))
given_by-last value speaks [] t = refl
given_by-last value speaks (x ∷ xs) t =
    let one : (if speaks x t then Some (value x) else None) ≡ option_map value (if speaks x t then Some x else None) =
    elim (speaks x t) as (λ b. (if b then Some (value x) else None) ≡ option_map value (if b then Some x else None)) [ true ↦ refl | false ↦ refl ] in
    ap (λ later. option_or later (if speaks x t then Some (value x) else None)) (given_by-last value speaks xs t) ∙
    ap (option_or (option_map value (find (λ r. speaks r t) (reverse xs)))) one ∙
    sym (last_found-append value (λ r. speaks r t) (x ∷ []) xs)

-- where amounts add up, their sum
pub given_by-sum : {R : Type 0} (gives : R → ℕ) (speaks : R → ℕ → Bool) (xs : List R) (t : ℕ) →
    given_by 0 (λ older newer. older + newer) speaks gives xs t ≡ sum_by (λ r. if speaks r t then gives r else 0) xs
given_by-sum gives speaks [] t = refl
given_by-sum gives speaks (x ∷ xs) t =
    ap (λ later. (if speaks x t then gives x else 0) + later) (given_by-sum gives speaks xs t) ∙
    sym (sum_by-cons (λ r. if speaks r t then gives r else 0) x xs)

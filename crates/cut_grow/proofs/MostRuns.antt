-- The most inside so many runs: that it bounds what lies inside any such runs, and by which run last it is reached.
use Rattle.std.specs.Prelude.{All, count_by, eqb, max, not, sum}
use Rattle.std.proofs.Common.{◌≡◌, ◌≢◌, ◌⊎◌, ℕ, zero, suc, ◌≤◌, ◌+◌, ◌-◌, ◌*◌, true, false, List, [], ◌∷◌, length, inl, inr, refl, ap, subst, ◌∙◌, arith}
use Rattle.std.proofs.lemmas.Bool.{eq-eqb, ne_eqb}
use Rattle.std.proofs.lemmas.List.Elements.{All-head, All-tail}
use Rattle.std.proofs.lemmas.List.Sums.{count_by-le-length}
use Rattle.step_plan.proofs.Sums.{count_by-cons}
use Rattle.cut_grow.specs.Most.{most, start_of}
use Rattle.cut_grow.specs.Spans.{inside, inside_runs, is_inside}
use Rattle.cut_grow.specs.declared.span.Span.{Span}
use Rattle.cut_grow.proofs.Counted.{counted, uncounted}
use Rattle.cut_grow.proofs.RunNumbers.{sum-cons}

-- one run more

pub most-none : (spans : List Span) (floor : ℕ) → most spans floor 0 0 ≡ 0
unfolding most
most-none spans floor = refl

pub most-small_alone : (spans : List Span) (floor small : ℕ) → most spans floor (suc small) 0 ≡ most spans floor small 0 + inside spans (start_of floor small 0) floor
unfolding most
most-small_alone spans floor small = refl

pub most-large_alone : (spans : List Span) (floor large : ℕ) → most spans floor 0 (suc large) ≡ most spans floor 0 large + inside spans (start_of floor 0 large) (floor + 1)
unfolding most
most-large_alone spans floor large = refl

pub most-either : (spans : List Span) (floor small large : ℕ) → most spans floor (suc small) (suc large) ≡ max
    (most spans floor small (suc large) + inside spans (start_of floor small (suc large)) floor)
    (most spans floor (suc small) large + inside spans (start_of floor (suc small) large) (floor + 1))
unfolding most
most-either spans floor small large = refl

small-le : (spans : List Span) (floor small large : ℕ) → most spans floor small large + inside spans (start_of floor small large) floor ≤ most spans floor (suc small) large
small-le spans floor small zero = omega (arith, most-small_alone spans floor small)
small-le spans floor small (suc large) = omega (arith, most-either spans floor small large)

large-le : (spans : List Span) (floor small large : ℕ) → most spans floor small large + inside spans (start_of floor small large) (floor + 1) ≤ most spans floor small (suc large)
large-le spans floor zero large = omega (arith, most-large_alone spans floor large)
large-le spans floor (suc small) large = omega (arith, most-either spans floor small large)

-- the most by the most with one run less; a number that isn't there is 0
pub most-by : (spans : List Span) (floor small large by_small by_large : ℕ) →
    ((less : ℕ) → small ≡ suc less → by_small ≡ most spans floor less large + inside spans (start_of floor less large) floor) → (small ≡ 0 → by_small ≡ 0) →
    ((less : ℕ) → large ≡ suc less → by_large ≡ most spans floor small less + inside spans (start_of floor small less) (floor + 1)) → (large ≡ 0 → by_large ≡ 0) →
    max by_small by_large ≡ most spans floor small large
most-by spans floor zero zero by_small by_large some_small no_small some_large no_large =
    omega (arith, most-none spans floor, no_small refl, no_large refl)
most-by spans floor zero (suc large) by_small by_large some_small no_small some_large no_large =
    omega (arith, most-large_alone spans floor large, no_small refl, some_large large refl)
most-by spans floor (suc small) zero by_small by_large some_small no_small some_large no_large =
    omega (arith, most-small_alone spans floor small, some_small small refl, no_large refl)
most-by spans floor (suc small) (suc large) by_small by_large some_small no_small some_large no_large =
    omega (arith, most-either spans floor small large, some_small small refl, some_large large refl)

-- where it isn't reached with a small run last, it is with a large one
pub ends-large : (spans : List Span) (floor small large : ℕ) → 1 ≤ small + large →
    ((less : ℕ) → small ≡ suc less → most spans floor small large ≢ most spans floor less large + inside spans (start_of floor less large) floor) →
    (1 ≤ large) × (most spans floor small large ≡ most spans floor small (large - 1) + inside spans (start_of floor small (large - 1)) (floor + 1))
ends-large spans floor zero zero some not_small = absurd (omega arith)
ends-large spans floor (suc small) zero some not_small = absurd (not_small small refl (most-small_alone spans floor small))
ends-large spans floor zero (suc large) some not_small =
    let less : large ≡ suc large - 1 = omega arith in
    (omega arith, most-large_alone spans floor large ∙ ap (λ l. most spans floor 0 l + inside spans (start_of floor 0 l) (floor + 1)) less)
ends-large spans floor (suc small) (suc large) some not_small =
    let less : large ≡ suc large - 1 = omega arith in
    let small_less : most spans floor (suc small) (suc large) ≢ most spans floor small (suc large) + inside spans (start_of floor small (suc large)) floor = not_small small refl in
    let is : most spans floor (suc small) (suc large) ≡ most spans floor (suc small) large + inside spans (start_of floor (suc small) large) (floor + 1) =
    omega (arith, most-either spans floor small large, small_less) in
    (omega arith, is ∙ ap (λ l. most spans floor (suc small) l + inside spans (start_of floor (suc small) l) (floor + 1)) less)

-- no more are inside than there are, once for each run

few_large : (spans : List Span) (floor large : ℕ) → most spans floor 0 large ≤ large * length spans
few_large spans floor zero = omega (arith, most-none spans floor)
few_large spans floor (suc large) =
    omega (arith, most-large_alone spans floor large, few_large spans floor large, count_by-le-length (is_inside (start_of floor 0 large) (floor + 1)) spans)

few_next : (spans : List Span) (floor small : ℕ) → ((large : ℕ) → most spans floor small large ≤ (small + large) * length spans) →
    (large : ℕ) → most spans floor (suc small) large ≤ (suc small + large) * length spans
few_next spans floor small before zero =
    omega (arith, most-small_alone spans floor small, before 0, count_by-le-length (is_inside (start_of floor small 0) floor) spans)
few_next spans floor small before (suc large) =
    omega (
      arith,
      most-either spans floor small large,
      before (suc large),
      few_next spans floor small before large,
      count_by-le-length (is_inside (start_of floor small (suc large)) floor) spans,
      count_by-le-length (is_inside (start_of floor (suc small) large) (floor + 1)) spans,
    )

pub most-few : (spans : List Span) (floor small large : ℕ) → most spans floor small large ≤ (small + large) * length spans
most-few spans floor zero large = omega (arith, few_large spans floor large)
most-few spans floor (suc small) large = few_next spans floor small (most-few spans floor small) large

-- it bounds what lies inside any such runs

abbrev pub smalls_of : (floor : ℕ) → List ℕ → ℕ
smalls_of floor sizes = count_by (λ size. eqb size floor) sizes

abbrev pub larges_of : (floor : ℕ) → List ℕ → ℕ
larges_of floor sizes = count_by (λ size. not (eqb size floor)) sizes

-- each run has this size or one place more
abbrev pub AreSizes : (floor : ℕ) → List ℕ → Type 0
AreSizes floor sizes = All (λ size. (size ≡ floor) ⊎ (size ≡ floor + 1)) sizes

smalls-first : (floor size : ℕ) (sizes : List ℕ) → size ≡ floor →
    (smalls_of floor (size ∷ sizes) ≡ suc (smalls_of floor sizes)) × (larges_of floor (size ∷ sizes) ≡ larges_of floor sizes)
smalls-first floor size sizes is =
    let test : eqb size floor ≡ true = eq-eqb size floor is in (
      omega (arith, count_by-cons (λ s. eqb s floor) size sizes, counted (eqb size floor) test),
      omega (arith, count_by-cons (λ s. not (eqb s floor)) size sizes, uncounted (not (eqb size floor)) (ap not test)),
    )

larges-first : (floor size : ℕ) (sizes : List ℕ) → size ≡ floor + 1 →
    (smalls_of floor (size ∷ sizes) ≡ smalls_of floor sizes) × (larges_of floor (size ∷ sizes) ≡ suc (larges_of floor sizes))
larges-first floor size sizes is =
    let test : eqb size floor ≡ false = ne_eqb size floor (λ same. omega (arith, same)) in (
      omega (arith, count_by-cons (λ s. eqb s floor) size sizes, uncounted (eqb size floor) test),
      omega (arith, count_by-cons (λ s. not (eqb s floor)) size sizes, counted (not (eqb size floor)) (ap not test)),
    )

pub inside-at_most : (spans : List Span) (floor : ℕ) (sizes : List ℕ) (small large : ℕ) → AreSizes floor sizes →
    most spans floor small large + inside_runs spans (start_of floor small large) sizes ≤ most spans floor (small + smalls_of floor sizes) (large + larges_of floor sizes)
inside-at_most spans floor [] small large each =
    let same_small : small ≡ small + 0 = omega arith in
    let same_large : large ≡ large + 0 = omega arith in
    subst (λ s. most spans floor small large + 0 ≤ most spans floor s (large + 0)) same_small
    (subst (λ l. most spans floor small large + 0 ≤ most spans floor small l) same_large (omega arith))
inside-at_most spans floor (size ∷ sizes) small large each =
    let rest : AreSizes floor sizes = All-tail (λ s. (s ≡ floor) ⊎ (s ≡ floor + 1)) size sizes each in
    elim (All-head (λ s. (s ≡ floor) ⊎ (s ≡ floor + 1)) size sizes each) [
      | inl is ↦
          let counted = smalls-first floor size sizes is in
          let next : start_of floor small large + size ≡ start_of floor (suc small) large = omega (arith, is) in
          let small_sum : suc small + smalls_of floor sizes ≡ small + smalls_of floor (size ∷ sizes) = omega (arith, counted.0) in
          let large_sum : large + larges_of floor sizes ≡ large + larges_of floor (size ∷ sizes) = omega (arith, counted.1) in
          let bound = inside-at_most spans floor sizes (suc small) large rest in
          let whole : most spans floor (suc small + smalls_of floor sizes) (large + larges_of floor sizes) ≡ most spans floor (small + smalls_of floor (size ∷ sizes)) (large + larges_of floor (size ∷ sizes)) =
          ap (λ s. most spans floor s (large + larges_of floor sizes)) small_sum ∙ ap (most spans floor (small + smalls_of floor (size ∷ sizes))) large_sum in
          omega (
            arith,
            bound,
            whole,
            small-le spans floor small large,
            ap (inside spans (start_of floor small large)) is,
            ap (λ from. inside_runs spans from sizes) next,
          )
      | inr is ↦
          let counted = larges-first floor size sizes is in
          let next : start_of floor small large + size ≡ start_of floor small (suc large) = omega (arith, is) in
          let small_sum : small + smalls_of floor sizes ≡ small + smalls_of floor (size ∷ sizes) = omega (arith, counted.0) in
          let large_sum : suc large + larges_of floor sizes ≡ large + larges_of floor (size ∷ sizes) = omega (arith, counted.1) in
          let bound = inside-at_most spans floor sizes small (suc large) rest in
          let whole : most spans floor (small + smalls_of floor sizes) (suc large + larges_of floor sizes) ≡ most spans floor (small + smalls_of floor (size ∷ sizes)) (large + larges_of floor (size ∷ sizes)) =
          ap (λ s. most spans floor s (suc large + larges_of floor sizes)) small_sum ∙ ap (most spans floor (small + smalls_of floor (size ∷ sizes))) large_sum in
          omega (
            arith,
            bound,
            whole,
            large-le spans floor small large,
            ap (inside spans (start_of floor small large)) is,
            ap (λ from. inside_runs spans from sizes) next,
          )
    ]

-- how many of each there are, by their sum
pub sizes-sum : (floor : ℕ) (sizes : List ℕ) → AreSizes floor sizes →
    (sum sizes ≡ length sizes * floor + larges_of floor sizes) × (smalls_of floor sizes + larges_of floor sizes ≡ length sizes)
sizes-sum floor [] each = (omega arith, refl)
sizes-sum floor (size ∷ sizes) each =
    let rest = sizes-sum floor sizes (All-tail (λ s. (s ≡ floor) ⊎ (s ≡ floor + 1)) size sizes each) in
    elim (All-head (λ s. (s ≡ floor) ⊎ (s ≡ floor + 1)) size sizes each) [
      | inl is ↦
          let counted = smalls-first floor size sizes is in
          (omega (arith, counted.0, counted.1, rest.0, is, sum-cons size sizes), omega (arith, counted.0, counted.1, rest.1))
      | inr is ↦
          let counted = larges-first floor size sizes is in
          (omega (arith, counted.0, counted.1, rest.0, is, sum-cons size sizes), omega (arith, counted.0, counted.1, rest.1))
    ]

-- Counts of numbers, and how many spans lie inside a run by such counts.
use Rattle.std.specs.Prelude.{cond, count_by, eqb, map, nat_le, nat_lt}
use Rattle.std.proofs.Common.{◌≡◌, ℕ, ◌<◌, ◌+◌, Bool, List, [], ◌∷◌, length, get_or, set, take, inl, inr, sym, refl, ap, ◌∙◌, arith}
use Rattle.std.proofs.lemmas.Bool.{and_from, and_left, and_right, cases_eq, cases_lt, eq-eqb, le-leb, le-ltb, lt-leb, lt-ltb, ne_eqb}
use Rattle.std.proofs.lemmas.List.{get_or-set_other, get_or-set_same}
use Rattle.std.proofs.lemmas.List.Folds.{fold-map}
use Rattle.std.proofs.lemmas.List.Sums.{count_by_more_no, count_by_more_yes}
use Rattle.step_plan.proofs.Sums.{count_by-cons, sum_by_splits}
use Rattle.cut_grow.specs.Counts.{begin_of}
use Rattle.cut_grow.specs.Spans.{inside, is_inside}
use Rattle.cut_grow.specs.declared.span.Span.{Span}
use Rattle.cut_grow.proofs.Counted.{counted, uncounted}

-- those below a number and those equal to it are those below the next
pub below-next : (p : ℕ) (numbers : List ℕ) →
    count_by (λ number. nat_lt number (p + 1)) numbers ≡ count_by (λ number. nat_lt number p) numbers + count_by (λ number. eqb number p) numbers
below-next p numbers =
    sum_by_splits (λ number. cond (nat_lt number (p + 1)) 1 0) (λ number. cond (nat_lt number p) 1 0) (λ number. cond (eqb number p) 1 0) numbers (λ number.
    elim (cases_lt number p) [
      | inl below ↦
          omega (
            arith,
            counted (nat_lt number (p + 1)) (lt-ltb number (p + 1) (omega arith)),
            counted (nat_lt number p) (lt-ltb number p below),
            uncounted (eqb number p) (ne_eqb number p (λ same. omega (arith, same))),
          )
      | inr past ↦ elim (cases_eq number p) [
        | inl same ↦
            omega (
              arith,
              counted (nat_lt number (p + 1)) (lt-ltb number (p + 1) (omega arith)),
              uncounted (nat_lt number p) (le-ltb number p past),
              counted (eqb number p) (eq-eqb number p same),
            )
        | inr other ↦
            omega (
              arith,
              uncounted (nat_lt number (p + 1)) (le-ltb number (p + 1) (omega (arith, other))),
              uncounted (nat_lt number p) (le-ltb number p past),
              uncounted (eqb number p) (ne_eqb number p other),
            )
      ]
    ])

pub count-map : {X : Type 0} (p : ℕ → Bool) (f : X → ℕ) (xs : List X) → count_by p (map f xs) ≡ count_by (λ x. p (f x)) xs
count-map p f xs = fold-map (λ a x. a + cond (p x) 1 0) f 0 xs

-- a run has the spans that begin by its first place, without those that it has passed
pub gain-counts : (spans : List Span) (size p : ℕ) →
    count_by (λ number. nat_lt number (p + 1)) (map (begin_of size) spans) ≡ inside spans p size + count_by (λ number. nat_lt number p) (map (λ span. span.first) spans)
gain-counts spans size p =
    count-map (λ number. nat_lt number (p + 1)) (begin_of size) spans ∙
    sum_by_splits (λ span. cond (nat_lt (begin_of size span) (p + 1)) 1 0) (λ span. cond (is_inside p size span) 1 0) (λ span. cond (nat_lt span.first p) 1 0) spans (one size p) ∙
    ap (λ n. inside spans p size + n) (sym (count-map (λ number. nat_lt number p) (λ span. span.first) spans))
  where
    one : (size p : ℕ) (span : Span) → cond (nat_lt (begin_of size span) (p + 1)) 1 0 ≡ cond (is_inside p size span) 1 0 + cond (nat_lt span.first p) 1 0
    one size p span = elim (cases_lt span.first p) [
      | inl passed ↦
          omega (
            arith,
            counted (nat_lt (begin_of size span) (p + 1)) (lt-ltb (begin_of size span) (p + 1) (omega arith)),
            uncounted (is_inside p size span) (and_left (nat_le p span.first) (nat_lt span.last (p + size)) (lt-leb p span.first passed)),
            counted (nat_lt span.first p) (lt-ltb span.first p passed),
          )
      | inr ahead ↦ elim (cases_lt span.last (p + size)) [
        | inl within ↦
            omega (
              arith,
              counted (nat_lt (begin_of size span) (p + 1)) (lt-ltb (begin_of size span) (p + 1) (omega arith)),
              counted (is_inside p size span)
                  (and_from (nat_le p span.first) (nat_lt span.last (p + size)) (le-leb p span.first ahead) (lt-ltb span.last (p + size) within)),
              uncounted (nat_lt span.first p) (le-ltb span.first p ahead),
            )
        | inr past ↦
            omega (
              arith,
              uncounted (nat_lt (begin_of size span) (p + 1)) (le-ltb (begin_of size span) (p + 1) (omega arith)),
              uncounted (is_inside p size span) (and_right (nat_le p span.first) (nat_lt span.last (p + size)) (le-ltb span.last (p + size) past)),
              uncounted (nat_lt span.first p) (le-ltb span.first p ahead),
            )
      ]
    ]

-- one number more in the counts of equal numbers
pub equal-more : (numbers counts : List ℕ) (k p : ℕ) → k < length numbers → get_or numbers k 0 < length counts →
    get_or counts p 0 ≡ count_by (λ number. eqb number p) (take k numbers) →
    get_or (set counts (get_or numbers k 0) (get_or counts (get_or numbers k 0) 0 + 1)) p 0 ≡ count_by (λ number. eqb number p) (take (k + 1) numbers)
equal-more numbers counts k p within there before =
    let number : ℕ = get_or numbers k 0 in
    elim (cases_eq p number) [
      | inl same ↦
          ap (λ q. get_or (set counts number (get_or counts number 0 + 1)) q 0) same ∙ get_or-set_same counts number (get_or counts number 0 + 1) 0 there ∙
          ap (λ q. get_or counts q 0 + 1) (sym same) ∙ ap (λ n. n + 1) before ∙
          sym (count_by_more_yes (λ n. eqb n p) numbers k 0 within (eq-eqb number p (sym same)))
      | inr other ↦
          get_or-set_other counts number p (get_or counts number 0 + 1) 0 other ∙ before ∙
          sym (count_by_more_no (λ n. eqb n p) numbers k 0 within (ne_eqb number p (λ same. other (sym same))))
    ]

-- no number is below 0
pub none-below : (numbers : List ℕ) → count_by (λ number. nat_lt number 0) numbers ≡ 0
none-below [] = refl
none-below (number ∷ numbers) =
    omega (arith, count_by-cons (λ n. nat_lt n 0) number numbers, uncounted (nat_lt number 0) (le-ltb number 0 (omega arith)), none-below numbers)

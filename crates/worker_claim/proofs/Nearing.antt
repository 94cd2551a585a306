-- A sweep with the whole share brings the regions nearer to the goal, as long as one stands below it.
use Rattle.std.specs.Prelude.{slice_index}
use Rattle.std.specs.List.{range_with_len, sum_by}
use Rattle.std.proofs.Common.{◌≡◌, ◌⊎◌, ℕ, zero, suc, ◌+◌, ◌-◌, ◌<◌, ◌≤◌, inl, inr, false, refl, sym, subst, arith}
use Rattle.std.proofs.lemmas.Bool.{cases_eq}
use Rattle.std.proofs.lemmas.List.Sums.{sum_by-cons}
use Rattle.region_cut.specs.Cuttings.{region_count}
use Rattle.border_rows.specs.declared.view.Terms.{Terms}
use Rattle.border_rows.specs.declared.view.View.{View}
use Rattle.worker_claim.specs.Driving.{steps_left}
use Rattle.worker_claim.specs.Turns.{IsShort}
use Rattle.worker_claim.specs.declared.driven.Driven.{Driven}
use Rattle.worker_claim.proofs.Sweeping.{IsSweep}

-- a sum of terms none of which has grown is less, or each term is as it was
same-or-less : (f g : ℕ → ℕ) (a n : ℕ) → ((p : ℕ) → f p ≤ g p) →
    (sum_by f (range_with_len a n) < sum_by g (range_with_len a n)) ⊎ ((p : ℕ) → a ≤ p → p < a + n → f p ≡ g p)
same-or-less f g a zero no_more = inr (λ p low high. absurd (omega (arith, low, high)))
same-or-less f g a (suc n) no_more =
    let left : sum_by f (range_with_len a (suc n)) ≡ f a + sum_by f (range_with_len (a + 1) n) = sum_by-cons f a (range_with_len (a + 1) n) in
    let right : sum_by g (range_with_len a (suc n)) ≡ g a + sum_by g (range_with_len (a + 1) n) = sum_by-cons g a (range_with_len (a + 1) n) in
    elim (same-or-less f g (a + 1) n no_more) [
      | inl less ↦ inl (omega (arith, left, right, less, no_more a))
      | inr same ↦ elim (cases_eq (f a) (g a)) [
        | inl first ↦ inr (λ p low high. elim (cases_eq p a) [
          | inl here ↦ subst (λ k. f k ≡ g k) (sym here) first
          | inr later ↦ same p (omega (arith, low, later)) (omega (arith, high))
        ])
        | inr first ↦ inl (omega (arith, left, right, first, no_more a, rest-same f g (a + 1) n same))
      ]
    ]
  where
    rest-same : (f g : ℕ → ℕ) (a n : ℕ) → ((p : ℕ) → a ≤ p → p < a + n → f p ≡ g p) → sum_by f (range_with_len a n) ≡ sum_by g (range_with_len a n)
    rest-same f g a zero same = refl
    rest-same f g a (suc n) same =
        let left : sum_by f (range_with_len a (suc n)) ≡ f a + sum_by f (range_with_len (a + 1) n) = sum_by-cons f a (range_with_len (a + 1) n) in
        let right : sum_by g (range_with_len a (suc n)) ≡ g a + sum_by g (range_with_len (a + 1) n) = sum_by-cons g a (range_with_len (a + 1) n) in
        omega (arith, left, right, same a (omega arith) (omega arith), rest-same f g (a + 1) n (λ p low high. same p (omega (arith, low)) (omega (arith, high))))

-- no region was seen to rise below the goal
abbrev AllStay : (count goal : ℕ) (old new : View) → Type 0
AllStay count goal old new = (r : ℕ) → r < count → goal - slice_index new.seen r ≡ goal - slice_index old.seen r

-- Then none has stayed below the goal: one that was found short was so of a lower one, down to the lowest.
all-reach : (terms : Terms) (old new : View) (goal : ℕ) (driven : Driven) (n r : ℕ) → IsSweep terms old new goal driven → driven.moved + driven.held ≡ 0 → AllStay (region_count terms.setup.now.chart.cut) goal old new →
    r < region_count terms.setup.now.chart.cut → slice_index old.seen r < n → goal ≤ slice_index new.seen r
all-reach terms old new goal driven zero r sweep nothing stay within low = absurd (omega (arith, low))
all-reach terms old new goal driven (suc n) r sweep nothing stay within low = elim (sweep.each r within) [
  | inl reached ↦ reached
  | inr rest ↦ elim rest [
    | inl some ↦ absurd (some nothing)
    | inr is ↦
        let short : IsShort terms old new goal r = is.1 in
        let reached = all-reach terms old new goal driven n short.q sweep nothing stay short.there
        (omega (arith, low, short.below, short.own.0, short.own.1, short.other.0, short.other.1, stay r within)) in
        absurd (omega (arith, reached, short.below, short.other.0, short.other.1, stay short.q short.there))
  ]
]

pub nearer : (terms : Terms) (old new : View) (goal : ℕ) (driven : Driven) → IsSweep terms old new goal driven → old.share ≡ terms.seats → driven.all ≡ false →
    steps_left (region_count terms.setup.now.chart.cut) goal new < steps_left (region_count terms.setup.now.chart.cut) goal old
nearer terms old new goal driven sweep whole below =
    let count : ℕ = region_count terms.setup.now.chart.cut in
    let now : ℕ → ℕ = λ r. goal - slice_index new.seen r in
    let before : ℕ → ℕ = λ r. goal - slice_index old.seen r in
    elim (same-or-less now before 0 count (λ p. omega (arith, sweep.counted.keeps.seen.later p))) [
      | inl less ↦ less
      | inr same ↦
          let stay : AllStay count goal old new = λ r within. same r (omega arith) (omega (arith, within)) in
          let held : driven.held ≡ 0 = sweep.counted.never_held whole in
          elim (cases_eq driven.moved 0) [
            | inl still ↦ elim (cases_eq driven.behind 0) [
              | inl no_more ↦ absurd (sweep.not_all below (omega (arith, still, held, no_more, sweep.turns)))
              | inr some ↦
                  let is = sweep.counted.short some in
                  let short : IsShort terms old new goal is.0 = is.2 in
                  let reached = all-reach terms old new goal driven (slice_index old.seen short.q + 1) short.q sweep (omega (arith, still, held)) stay short.there (omega arith) in
                  absurd (omega (arith, reached, short.below, short.other.0, short.other.1, stay short.q short.there))
            ]
            | inr some ↦ let is = sweep.counted.risen some in absurd (omega (arith, is.2, is.3, stay is.0 is.1))
          ]
    ]

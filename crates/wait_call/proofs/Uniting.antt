-- Passes that are shared off and united again.
use Rattle.std.specs.Prelude.{All, max, slice_index}
use Rattle.std.specs.List.{Contains}
use Rattle.std.proofs.Common.{◌≡◌, ℕ, ◌<◌, inl, inr, List, [], ◌∷◌, ◌++◌, length, refl, sym, subst, ◌∙◌, arith}
use Rattle.std.proofs.lemmas.List.Elements.{Contains-append_cases, Contains-append_left, Contains-append_right}
use Rattle.std.proofs.lemmas.List.FromFn.{get_or-map-range_with_len}
use Rattle.border_rows.specs.Kinds.{united}
use Rattle.border_rows.specs.declared.view.PublishedStep.{PublishedStep}
use Rattle.border_rows.specs.declared.view.View.{View}
use Rattle.region_slots.specs.FieldView.{FieldValue, PassValue}
use Rattle.region_slots.specs.Moments.{AreTold}
use Rattle.parked_crew.specs.Parking.{AreBrought, ArePassesOf, HasSeenAll}
use Rattle.parked_crew.specs.Telling.{ArePassesTold}
use Rattle.wait_call.specs.Seats.{AreFrom, HasCome, IsSeat}

-- two views that become one have seen what the one of them has, and what the other has
united-seen : (view other : View) (r : ℕ) → r < length view.seen → slice_index (united view other).seen r ≡ max (slice_index view.seen r) (slice_index other.seen r)
united-seen view other r within = get_or-map-range_with_len (λ q. max (slice_index view.seen q) (slice_index other.seen q)) 0 (length view.seen) r r 0 within (omega arith)

pub united-all : (view other : View) (count goal : ℕ) → length view.seen ≡ count → HasSeenAll count goal other → HasSeenAll count goal (united view other)
united-all view other count goal long all r there = omega (arith, united-seen view other r (omega (arith, there, long)), all r there)

-- the seats of workers are passes of the field
pub seats-belong : (field : FieldValue) (passes : List PassValue) → All (IsSeat field) passes → ArePassesOf field passes
seats-belong field passes seats = λ k d within. (seats k d within).belongs

-- and have come to the last step once they are brought there
pub brought-come : (field : FieldValue) (goal : ℕ) (old new : List PassValue) → goal ≡ field.terms.setup.now.net.steps → All (IsSeat field) old → AreBrought field goal old new → All (HasCome field) new
brought-come field goal old new last seats brought = λ k d within.
    let inside : k < length old = omega (arith, within, brought.one_each) in
    let was = seats k d inside in
    let is = brought.each k d inside in
    record {
      seat = record {
        belongs = is.belongs;
        share = is.keeps.share ∙ was.share;
        reach = omega (arith, is.keeps.reach, was.reach, last);
      };
      seen = λ r there. omega (arith, is.seen r there, last);
    }

-- the logs of those that are left, and of one more that is united
pub among-more : (passes left : List PassValue) (one : PassValue) → ((pass : PassValue) → Contains (left ++ one ∷ []) pass → Contains passes pass) →
    (pass : PassValue) → Contains left pass → Contains passes pass
among-more passes left one among pass has = among pass (Contains-append_left left (one ∷ []) pass has)

pub from-more : (own : List PublishedStep) (passes left : List PassValue) (one : PassValue) (old new : List PublishedStep) → ((pass : PassValue) → Contains (left ++ one ∷ []) pass → Contains passes pass) →
    AreFrom own passes old → new ≡ old ++ one.knows.log → AreFrom own passes new
from-more own passes left one old new among from more = λ entry has.
    elim (Contains-append_cases old one.knows.log entry (subst (λ log. Contains log entry) more has)) [
      | inl was ↦ from entry was
      | inr here ↦ inr (one, among one (Contains-append_right left (one ∷ []) one (0, omega arith, refl)), here)
    ]

-- passes that had published nothing have come to the last step, and are united
pub told-united : (held freed : ℕ → ℕ → Type 0) (own last : List PublishedStep) (before after : List PassValue) → length after ≡ length before →
    All (λ (pass : PassValue). pass.knows.log ≡ []) before → ArePassesTold held freed before after → AreFrom own after last → AreTold held freed own last
told-united held freed own last before after long nothing told from = λ entry has. elim (from entry has) [
  | inl was ↦ inl was
  | inr (pass, (k, within, is), here) ↦
      let inside : k < length before = omega (arith, within, long) in
      elim (told.each k pass inside entry (subst (λ (p : PassValue). Contains p.knows.log entry) (sym is) here)) [
        | inl was ↦ let none : Contains [] entry = subst (λ log. Contains log entry) (nothing k pass inside) was in absurd (omega (arith, none.1))
        | inr new ↦ inr new
      ]
]

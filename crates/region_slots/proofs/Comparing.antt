-- A look at the step word of a neighbour of the region held last.
use Rattle.std.specs.Prelude.{slice_index}
use Rattle.std.proofs.Common.{◌≡◌, ◌≢◌, ℕ, ◌<◌, ◌≤◌, inl, inr, true, List, [], ◌∷◌, refl, sym, ap, subst, ◌∙◌, arith}
use Rattle.std.proofs.lemmas.Bool.{cases_eq, cases_lt}
use mathlib.Core.Option.{none}
use Rattle.atomic_table.specs.Table.{Allows, keeps, step}
use Rattle.region_cut.specs.Chart.{IsChart}
use Rattle.region_cut.specs.Cuttings.{region_count}
use Rattle.region_cut.specs.Neighbours.{are_neighbours}
use Rattle.border_rows.specs.Kinds.{cleared, found_short}
use Rattle.border_rows.specs.Places.{step_place, widths_of}
use Rattle.border_rows.specs.Standing.{IsStanding}
use Rattle.border_rows.specs.Views.{IsHeld}
use Rattle.border_rows.specs.declared.view.Hold.{Hold}
use Rattle.border_rows.specs.declared.view.Terms.{Terms}
use Rattle.border_rows.specs.declared.view.View.{View}
use Rattle.border_rows.proofs.ClaimKinds.{within-widths}
use Rattle.border_rows.proofs.Keeping.{neighbours-there}
use Rattle.border_rows.proofs.LookKinds.{cleared-keeps, first-held, found_short-keeps, short-by-one}
use Rattle.border_rows.proofs.PlaceLaws.{steps-differ}
use Rattle.border_rows.proofs.ViewUpdates.{Contains-elem}
use Rattle.region_slots.specs.FieldView.{IsWorkingAt}
use Rattle.region_slots.specs.Plays.{Compared, IsBeside, Mine}
use Rattle.region_slots.proofs.Claiming.{same-terms}

-- a step word is of one region
pub same-step : (terms : Terms) (r q : ℕ) → IsChart terms.setup.now.chart → r < region_count terms.setup.now.chart.cut → q < region_count terms.setup.now.chart.cut →
    step_place (widths_of terms.setup.now.chart) r ≡ step_place (widths_of terms.setup.now.chart) q → q ≡ r
same-step terms r q chart within there same = elim (cases_eq q r) [
  | inl is ↦ is
  | inr other ↦ absurd (steps-differ (widths_of terms.setup.now.chart) q r (within-widths terms.setup.now.chart q chart there) (within-widths terms.setup.now.chart r chart within) other (sym same))
]

-- the region held last is one
pub same-hold : (all : List Hold) (hold other : Hold) (later others : List Hold) → all ≡ hold ∷ later → all ≡ other ∷ others → other ≡ hold
same-hold all hold other later others first second = cc

-- what a look at the step word of neighbour q of the hold's region may be told
pub comparing : (terms : Terms) (slots id q : ℕ) (me : Mine) (hold : Hold) → IsChart terms.setup.now.chart → me.0.terms ≡ terms ∷ [] → me.0.share ≢ 0 → IsWorkingAt me.0 hold →
    are_neighbours terms.setup.now.net.connectors terms.setup.now.chart.cut hold.region q ≡ true →
    Allows (IsStanding terms) slots id me (step_place (widths_of terms.setup.now.chart) q) (λ n. n)
    (Compared (step slots (step_place (widths_of terms.setup.now.chart) q) 0 0 none) me)
comparing terms slots id q me hold chart of_field share works near = λ s standing long at small.
    let found : ℕ = slice_index s.words (step_place (widths_of terms.setup.now.chart) q) in
    let there : q < region_count terms.setup.now.chart.cut = (neighbours-there terms.setup.now.net terms.setup.now.chart hold.region q near).1 in
    let own : IsHeld s.views me.0 hold = record { seat = Contains-elem s.views id me.0 at; held = first-held me.0.holds hold works.later works.holds } in
    let seen : slice_index me.0.seen q ≤ found = standing.counts.seen me.0 q own.seat there in
    let is_q : (other : Terms) (p : ℕ) (h : Hold) → IsBeside me.0 other p h → step_place (widths_of terms.setup.now.chart) q ≡ step_place (widths_of other.setup.now.chart) p → (p ≡ q) × (h ≡ hold) =
    λ other p h beside same.
    let one : other ≡ terms = same-terms me.0 terms other of_field beside.region.of_field in
    (same-step terms q p chart there (rw one at beside.region.there) (rw one at same), same-hold me.0.holds hold h works.later beside.later works.holds beside.holds) in
    elim (cases_lt found hold.step) [
      | inl low ↦ (
        found_short me.0 hold.region q found,
        keeps,
        tt,
        found_short-keeps terms s id hold.region q me.1 me.0 standing at share there,
        record {
          near = λ other p h beside same past. let is = is_q other p h beside same in absurd (omega (arith, low, past, ap (λ (x : Hold). x.step) is.1));
          short = λ other p h beside same below.
              let is = is_q other p h beside same in
              let by_one = short-by-one terms s hold.region q me.0 hold standing own refl works.known works.early near low in (
                ap (λ n. (found_short me.0 hold.region n found, me.1)) (sym is.0) ∙ ap (λ (x : Hold). (found_short me.0 x.region p found, me.1)) (sym is.1),
                subst (λ n. slice_index me.0.seen n ≤ found) (sym is.0) seen,
                omega (arith, by_one, ap (λ (x : Hold). x.step) is.1),
              );
        },
      )
      | inr past ↦ (
        cleared me.0 q found,
        keeps,
        tt,
        cleared-keeps terms s id hold.region q me.1 me.0 hold works.later standing at share there works.holds refl works.known near past,
        record {
          near = λ other p h beside same reached.
              let is = is_q other p h beside same in
              (ap (λ n. (cleared me.0 n found, me.1)) (sym is.0), subst (λ n. slice_index me.0.seen n ≤ found) (sym is.0) seen);
          short = λ other p h beside same below. let is = is_q other p h beside same in absurd (omega (arith, past, below, ap (λ (x : Hold). x.step) is.1));
        },
      )
    ]

-- a neighbour is beside the region that a seat works at
pub working-beside : (terms : Terms) (q : ℕ) (view : View) (hold own : Hold) → view.terms ≡ terms ∷ [] → IsWorkingAt view hold → IsWorkingAt view own →
    are_neighbours terms.setup.now.net.connectors terms.setup.now.chart.cut own.region q ≡ true → IsBeside view terms q hold
working-beside terms q view hold own of_field works also near =
    let is : hold ≡ own = same-hold view.holds own hold also.later works.later also.holds works.holds in
    record {
      region = record { of_field = of_field; there = (neighbours-there terms.setup.now.net terms.setup.now.chart own.region q near).1 };
      later = works.later;
      holds = works.holds;
      known = works.known;
      early = works.early;
      near = subst (λ (x : Hold). are_neighbours terms.setup.now.net.connectors terms.setup.now.chart.cut x.region q ≡ true) (sym is) near;
    }

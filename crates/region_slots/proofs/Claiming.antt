-- A try of a claim word.
use Rattle.std.specs.Prelude.{slice_index, ◌==◌}
use Rattle.std.proofs.Common.{◌≡◌, ◌≢◌, ℕ, ◌<◌, ◌≤◌, inl, inr, [], ◌∷◌, length, sym, ap, subst, ◌∙◌, arith}
use Rattle.std.proofs.lemmas.Bool.{cases_eq}
use mathlib.Core.Option.{none, some}
use lib.ListN.{get_elem?}
use Rattle.atomic_table.specs.Table.{Act, Allows, Valid, carried_after, keeps, step, stepped}
use prog.Atomic.{either}
use Rattle.atomic_table.proofs.Lists.{exchanged}
use Rattle.region_cut.specs.Chart.{IsChart}
use Rattle.region_cut.specs.Cuttings.{region_count}
use Rattle.region_step.specs.Region.{RegionValue}
use Rattle.border_rows.specs.Kinds.{found_taken, taken}
use Rattle.border_rows.specs.Places.{claim_place, widths_of}
use Rattle.border_rows.specs.Standing.{FieldState, IsStanding}
use Rattle.std.specs.List.{Contains}
use Rattle.border_rows.specs.declared.view.Hold.{Hold}
use Rattle.border_rows.specs.declared.view.Terms.{Terms}
use Rattle.border_rows.specs.declared.view.View.{View}
use Rattle.border_rows.proofs.ClaimKinds.{found_taken-keeps, taken-keeps, whole_claim, within-widths}
use Rattle.border_rows.proofs.LookKinds.{steps_of-at}
use Rattle.border_rows.proofs.PlaceLaws.{claims-differ}
use Rattle.border_rows.proofs.ViewUpdates.{Contains-elem}
use Rattle.region_slots.specs.Plays.{Claimed, IsRegion, Mine}

-- the field of a view is one
pub same-terms : (view : View) (one other : Terms) → view.terms ≡ one ∷ [] → view.terms ≡ other ∷ [] → other ≡ one
same-terms view one other first second = cc

-- a claim word is of one region
pub same-claim : (terms : Terms) (r q : ℕ) → IsChart terms.setup.now.chart → r < region_count terms.setup.now.chart.cut → q < region_count terms.setup.now.chart.cut →
    claim_place (widths_of terms.setup.now.chart) r ≡ claim_place (widths_of terms.setup.now.chart) q → q ≡ r
same-claim terms r q chart within there same = elim (cases_eq q r) [
  | inl is ↦ is
  | inr other ↦ absurd (claims-differ (widths_of terms.setup.now.chart) q r (within-widths terms.setup.now.chart q chart there) (within-widths terms.setup.now.chart r chart within) other (sym same))
]

-- what a seat has seen of a region lies within the field's steps, since the region has published it
pub seen-in-time : (terms : Terms) (s : FieldState) (id : ℕ) (view : View) → IsStanding terms s → get_elem? s.views id ≡ some view → view.terms ≡ terms ∷ [] → (other : Terms) (q : ℕ) → IsRegion view other q →
    slice_index view.seen q ≤ other.setup.now.net.steps
seen-in-time terms s id view standing at of_field other q region =
    let one : other ≡ terms = same-terms view terms other of_field region.of_field in
    let there : q < region_count terms.setup.now.chart.cut = rw one at region.there in
    let seen = standing.counts.seen view q (Contains-elem s.views id view at) there in
    let last = standing.steps.lawful.in_time q 0 (omega (arith, there, standing.steps.lawful.one_each)) in
    subst (λ (t : Terms). slice_index view.seen q ≤ t.setup.now.net.steps) (sym one) (omega (arith, seen, last, steps_of-at terms.setup.now.chart s.words q there))

pub claiming : (terms : Terms) (slots id r : ℕ) (me : Mine) → IsChart terms.setup.now.chart → r < region_count terms.setup.now.chart.cut → me.0.terms ≡ terms ∷ [] → me.0.share ≢ 0 →
    ((hold : Hold) → Contains me.0.holds hold → hold.region ≢ r) →
    Allows (IsStanding terms) slots id me (claim_place (widths_of terms.setup.now.chart) r) (λ n. either (n == 0) 1 n)
    (Claimed (step slots (claim_place (widths_of terms.setup.now.chart) r) 0 1 none) me)
claiming terms slots id r me chart within of_field share others = λ s standing long at small.
    let found : ℕ = slice_index s.words (claim_place (widths_of terms.setup.now.chart) r) in
    let is_r : (other : Terms) (q : ℕ) → IsRegion me.0 other q → claim_place (widths_of terms.setup.now.chart) r ≡ claim_place (widths_of other.setup.now.chart) q → (other ≡ terms) × (q ≡ r) =
    λ other q region same.
    let one : other ≡ terms = same-terms me.0 terms other of_field region.of_field in
    (one, same-claim terms r q chart within (rw one at region.there) (rw one at same)) in
    let long_seen : (other : Terms) (q : ℕ) → IsRegion me.0 other q → length me.0.seen ≡ region_count other.setup.now.chart.cut =
    λ other q region. standing.counts.lengths me.0 (Contains-elem s.views id me.0 at) share ∙ ap (λ (t : Terms). region_count t.setup.now.chart.cut) (sym (same-terms me.0 terms other of_field region.of_field)) in
    exchanged found 0 1
    (λ n. (w : View) × (a : Act RegionValue) × Valid s.homes me.1 a × IsStanding terms (stepped s (claim_place (widths_of terms.setup.now.chart) r) n id me.1 w a)
    × Claimed (step slots (claim_place (widths_of terms.setup.now.chart) r) 0 1 none) me found (w, carried_after me.1 a))
    (λ free. (
      taken me.0 r,
      keeps,
      tt,
      taken-keeps terms s id r me.0 me.1 standing chart at share within free,
      record {
        free = λ other q region same zero_found. let is = is_r other q region same in ap (λ p. (taken me.0 p, me.1)) (sym is.1);
        held = λ other q region same some_found. absurd (some_found free);
        whole = λ other q region same all. free;
        others = λ other q region same hold has own. others hold has (own ∙ (is_r other q region same).1);
        long = long_seen;
        in_time = λ other q region. seen-in-time terms s id me.0 standing at of_field other q region;
      },
    ))
    (λ held. (
      found_taken me.0 r,
      keeps,
      tt,
      found_taken-keeps terms s id r me.0 me.1 standing at share,
      record {
        free = λ other q region same zero_found. absurd (held zero_found);
        held = λ other q region same some_found.
            let is = is_r other q region same in
            (ap (λ p. (found_taken me.0 p, me.1)) (sym is.1), omega (arith, held, standing.claims.counted r within, standing.claims.one r));
        whole = λ other q region same all.
            let is = is_r other q region same in absurd (held (whole_claim terms s id r me.0 standing at (rw is.0 at all) others within));
        others = λ other q region same hold has own. others hold has (own ∙ (is_r other q region same).1);
        long = long_seen;
        in_time = λ other q region. seen-in-time terms s id me.0 standing at of_field other q region;
      },
    ))

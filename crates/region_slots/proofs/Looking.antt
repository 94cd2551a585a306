-- A look at a step word, by itself or of the region just taken, and a region given back.
use Rattle.std.specs.Prelude.{slice_index, if◌then◌else◌}
use Rattle.std.proofs.Common.{◌≡◌, ◌≢◌, ℕ, ◌+◌, ◌<◌, ◌≤◌, List, [], ◌∷◌, true, refl, sym, subst, arith}
use mathlib.Core.Option.{none, some}
use lib.ListN.{get_elem?}
use Rattle.atomic_table.specs.Table.{Allows, gives, keeps, step, takes}
use Rattle.region_cut.specs.Chart.{IsChart}
use Rattle.region_cut.specs.Cuttings.{region_count}
use Rattle.region_step.specs.Region.{RegionValue}
use Rattle.region_step.specs.Standing.{Stands}
use Rattle.border_rows.specs.Kinds.{found_at, freed, fresh, looked}
use Rattle.border_rows.specs.Places.{claim_place, step_place, widths_of}
use Rattle.border_rows.specs.Standing.{FieldState, IsStanding}
use Rattle.border_rows.specs.Words.{step_of}
use Rattle.border_rows.specs.declared.view.Hold.{Hold}
use Rattle.border_rows.specs.declared.view.Terms.{Terms}
use Rattle.border_rows.specs.declared.view.View.{View}
use Rattle.border_rows.proofs.ClaimKinds.{freed_known-keeps}
use Rattle.border_rows.proofs.LookKinds.{found_at-keeps, looked-keeps, steps_of-at}
use Rattle.border_rows.proofs.ViewUpdates.{Contains-elem}
use Rattle.region_slots.specs.Plays.{Freed, IsRegion, Learned, Looked, Mine}
use Rattle.region_slots.proofs.Claiming.{same-terms, seen-in-time}
use Rattle.region_slots.proofs.Comparing.{same-step}

-- the field and the region that a view's step word is of
pub one-step : (terms : Terms) (view : View) (r : ℕ) → IsChart terms.setup.now.chart → r < region_count terms.setup.now.chart.cut → view.terms ≡ terms ∷ [] →
    (other : Terms) (q : ℕ) → IsRegion view other q → step_place (widths_of terms.setup.now.chart) r ≡ step_place (widths_of other.setup.now.chart) q → (other ≡ terms) × (q ≡ r)
one-step terms view r chart within of_field other q region same =
    let one : other ≡ terms = same-terms view terms other of_field region.of_field in
    (one, same-step terms r q chart within (rw one at region.there) (rw one at same))

-- what a look at a step word finds is no less than what the view has seen, and not past the field's steps
pub record IsFound (terms : Terms) (view : View) (r found : ℕ) : Type 0 where
  pub later : slice_index view.seen r ≤ found
  pub started : slice_index terms.setup.now.start.steps r ≤ found
  pub in_time : found ≤ terms.setup.now.net.steps

pub found-step : (terms : Terms) (s : FieldState) (id r : ℕ) (view : View) → IsStanding terms s → get_elem? s.views id ≡ some view → r < region_count terms.setup.now.chart.cut →
    IsFound terms view r (step_of terms.setup.now.chart s.words r)
found-step terms s id r view standing at within = record {
  later = standing.counts.seen view r (Contains-elem s.views id view at) within;
  started = standing.steps.started r within;
  in_time = omega (arith, standing.steps.lawful.in_time r 0 (omega (arith, within, standing.steps.lawful.one_each)), steps_of-at terms.setup.now.chart s.words r within);
}

pub looking : (terms : Terms) (slots id r : ℕ) (me : Mine) → IsChart terms.setup.now.chart → r < region_count terms.setup.now.chart.cut → me.0.terms ≡ terms ∷ [] → me.0.share ≢ 0 →
    Allows (IsStanding terms) slots id me (step_place (widths_of terms.setup.now.chart) r) (λ n. n) (Looked (step slots (step_place (widths_of terms.setup.now.chart) r) 0 0 none) me)
looking terms slots id r me chart within of_field share = λ s standing long at small.
    let found : ℕ = step_of terms.setup.now.chart s.words r in
    let is = found-step terms s id r me.0 standing at within in (
      looked me.0 r found,
      keeps,
      tt,
      looked-keeps terms s id r me.1 me.0 standing at share within,
      record {
        seen = λ other q region same.
            let one = one-step terms me.0 r chart within of_field other q region same in
            subst (λ p. (◌≡◌ {A = Mine} (looked me.0 r found, me.1) (looked me.0 p found, me.1)) × (slice_index me.0.seen p ≤ found) × (found ≤ other.setup.now.net.steps)) (sym one.1) (
              refl,
              is.later,
              subst (λ (t : Terms). found ≤ t.setup.now.net.steps) (sym one.0) is.in_time,
            );
      },
    )

pub learning : (terms : Terms) (slots id r : ℕ) (me : Mine) (later : List Hold) → IsChart terms.setup.now.chart → r < region_count terms.setup.now.chart.cut → me.0.terms ≡ terms ∷ [] → me.0.share ≢ 0 →
    me.0.holds ≡ fresh r ∷ later →
    Allows (IsStanding terms) slots id me (step_place (widths_of terms.setup.now.chart) r) (λ n. n) (Learned (step slots (step_place (widths_of terms.setup.now.chart) r) 0 0 none) me)
learning terms slots id r me later chart within of_field share taken = λ s standing long at small.
    let found : ℕ = step_of terms.setup.now.chart s.words r in
    let is = found-step terms s id r me.0 standing at within in
    let keep = found_at-keeps terms s id r me.1 me.0 (fresh r) later standing at share within taken refl in (
      found_at me.0 r found,
      takes r keep.0,
      keep.1,
      keep.3,
      record {
        known = λ other q also region same first.
            let one = one-step terms me.0 r chart within of_field other q region same in
            subst (λ (t : Terms). (state : RegionValue) × (◌≡◌ {A = Mine} (found_at me.0 r found, (r, keep.0) ∷ me.1) (found_at me.0 q found, (q, state) ∷ me.1))
            × Stands t.setup.now q found state
            × (slice_index me.0.seen q ≤ found) × (slice_index t.setup.now.start.steps q ≤ found) × (found ≤ t.setup.now.net.steps)) (sym one.0)
            (subst (λ p. (state : RegionValue) × (◌≡◌ {A = Mine} (found_at me.0 r found, (r, keep.0) ∷ me.1) (found_at me.0 p found, (p, state) ∷ me.1))
            × Stands terms.setup.now p found state
            × (slice_index me.0.seen p ≤ found) × (slice_index terms.setup.now.start.steps p ≤ found) × (found ≤ terms.setup.now.net.steps)) (sym one.1)
            (keep.0, refl, keep.2, is.later, is.started, is.in_time));
      },
    )

pub freeing : (terms : Terms) (slots id r : ℕ) (me : Mine) (hold : Hold) (later : List Hold) (state : RegionValue) (others : List (ℕ × RegionValue)) → IsChart terms.setup.now.chart → me.0.terms ≡ terms ∷ [] →
    me.0.share ≢ 0 → me.0.holds ≡ hold ∷ later → hold.region ≡ r → hold.known ≡ true → me.1 ≡ (r, state) ∷ others →
    Stands terms.setup.now r (if hold.published then hold.step + 1 else hold.step) state →
    Allows (IsStanding terms) slots id me (claim_place (widths_of terms.setup.now.chart) r) (λ _. 0) (λ _. Freed (step slots (claim_place (widths_of terms.setup.now.chart) r) 0 0 none) me 0)
freeing terms slots id r me hold later state others chart of_field share has own knows carries stands = λ s standing long at small. (
  freed me.0,
  gives,
  tt,
  freed_known-keeps terms s id r me.0 hold later state me.1 others standing chart at share has own knows carries stands,
  record { given = refl; in_time = λ other q region. seen-in-time terms s id me.0 standing at of_field other q region },
)

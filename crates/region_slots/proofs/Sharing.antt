-- A seat shared off, two seats made one, and what the whole share has seen.
use Rattle.std.specs.Prelude.{max, slice_index}
use Rattle.std.proofs.Common.{◌≡◌, ◌≢◌, ℕ, ◌<◌, ◌≤◌, [], ◌∷◌, refl, sym, ap, subst, ◌∙◌, arith}
use mathlib.Core.Option.{none, some}
use lib.ListN.{get_elem?}
use Rattle.atomic_table.specs.Table.{Allows, Joins, Splits, keeps, step}
use Rattle.region_cut.specs.Chart.{IsChart}
use Rattle.region_cut.specs.Cuttings.{region_count}
use Rattle.border_rows.specs.Kinds.{kept, shared_off, spent, united}
use Rattle.border_rows.specs.Places.{widths_of, words_of}
use Rattle.border_rows.specs.Standing.{FieldState, IsStanding}
use Rattle.border_rows.specs.declared.view.Terms.{Terms}
use Rattle.border_rows.specs.declared.view.View.{View}
use Rattle.border_rows.proofs.ClaimKinds.{within-widths}
use Rattle.border_rows.proofs.PlaceLaws.{claim-there}
use Rattle.border_rows.proofs.RowKinds.{read-keeps}
use Rattle.border_rows.proofs.SeatKinds.{join-keeps, split-keeps}
use Rattle.border_rows.proofs.ViewUpdates.{Contains-elem}
use Rattle.region_slots.specs.Plays.{Bounded, Mine}
use Rattle.region_slots.proofs.Claiming.{same-terms}
use Rattle.region_slots.proofs.Closing.{whole_reach}

-- a field has a word
pub some-word : (terms : Terms) → IsChart terms.setup.now.chart → 0 < words_of (widths_of terms.setup.now.chart)
some-word terms chart = omega (arith, claim-there (widths_of terms.setup.now.chart) 0 (within-widths terms.setup.now.chart 0 chart (omega arith)))

-- a seat is shared off
pub sharing : (terms : Terms) (id : ℕ) (view : View) → 2 ≤ view.share → Splits (IsStanding terms) id view (kept view) (shared_off view)
sharing terms id view shares = λ s standing at. split-keeps terms s id view standing at shares

-- two seats become one
pub uniting : (terms : Terms) (id : ℕ) (view : View) (place : ℕ) (other : View) → view.share ≢ 0 → other.share ≢ 0 → other.holds ≡ [] →
    Joins (IsStanding terms) id view place other (united view other) spent
uniting terms id view place other share also empty = λ s standing at apart there. join-keeps terms s id view place other standing at apart there share also empty

-- with the whole share no region was seen past its start and past the reach
whole-seen : (terms : Terms) (s : FieldState) (id r : ℕ) (view : View) → IsStanding terms s → get_elem? s.views id ≡ some view → view.share ≡ terms.seats →
    r < region_count terms.setup.now.chart.cut → slice_index view.seen r ≤ max (slice_index terms.setup.now.start.steps r) view.reach
whole-seen terms s id r view standing at all within =
    omega (arith, standing.counts.seen view r (Contains-elem s.views id view at) within, whole_reach terms s id r view standing at all within)

-- a look at any word tells so
pub bounding : (terms : Terms) (slots id place : ℕ) (me : Mine) → me.0.terms ≡ terms ∷ [] →
    Allows (IsStanding terms) slots id me place (λ n. n) (Bounded (step slots place 0 0 none) me)
bounding terms slots id place me of_field = λ s standing long at small. (
  me.0,
  keeps,
  tt,
  read-keeps terms s place id me.1 me.0 standing at,
  record {
    same = refl;
    whole = λ other r region all.
        let one : other ≡ terms = same-terms me.0 terms other of_field region.of_field in
        subst (λ (t : Terms). slice_index me.0.seen r ≤ max (slice_index t.setup.now.start.steps r) me.0.reach) (sym one)
        (whole-seen terms s id r me.0 standing at (all ∙ ap (λ (t : Terms). t.seats) one) (rw one at region.there));
  },
)

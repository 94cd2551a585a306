-- A look while a seat holds all regions: they stand together at the steps that it has seen.
use Rattle.std.specs.Prelude.{slice_index, if◌then◌else◌}
use Rattle.std.proofs.Common.{◌≡◌, ◌≢◌, ◌<◌, ◌≤◌, ◌+◌, ℕ, [], ◌∷◌, refl, sym, ap, subst, ◌∙◌, arith}
use Rattle.std.proofs.lemmas.List.{ext_get_or}
use mathlib.Core.Option.{none, some}
use lib.ListN.{get_elem?}
use Rattle.atomic_table.specs.Table.{Allows, keeps, step}
use Rattle.region_cut.specs.Cuttings.{region_count}
use Rattle.region_cut.specs.LawfulSteps.{AreLawful}
use Rattle.border_rows.specs.Kinds.{gathered}
use Rattle.border_rows.specs.Standing.{FieldState, IsStanding}
use Rattle.border_rows.specs.Words.{step_of, steps_of}
use Rattle.border_rows.specs.declared.view.Terms.{Terms}
use Rattle.border_rows.specs.declared.view.View.{View}
use Rattle.border_rows.proofs.ClaimKinds.{gathered-keeps}
use Rattle.border_rows.proofs.LookKinds.{steps_of-at}
use Rattle.border_rows.proofs.ViewUpdates.{Contains-elem}
use Rattle.region_slots.specs.Plays.{Gathered, HoldsAll, Mine}
use Rattle.region_slots.specs.Shooting.{IsWhole}
use Rattle.region_slots.proofs.Claiming.{same-terms}
use Rattle.region_slots.proofs.Closing.{since-made, whole_moves, whole_reach}

-- what it has seen is what the regions have published
seen-steps : (terms : Terms) (s : FieldState) (id : ℕ) (view : View) → IsStanding terms s → get_elem? s.views id ≡ some view → HoldsAll terms view → view.seen ≡ steps_of terms.setup.now.chart s.words
seen-steps terms s id view standing at all =
    let steps = steps_of terms.setup.now.chart s.words in
    ext_get_or 0 view.seen steps (all.long ∙ sym standing.steps.lawful.one_each)
    (λ r within.
    let there : r < region_count terms.setup.now.chart.cut = omega (arith, within, all.long) in
    let (hold, held, region, knows, early, seen) = all.each r there in
    let known : step_of terms.setup.now.chart s.words hold.region ≡ (if hold.published then hold.step + 1 else hold.step) =
    standing.steps.known view hold (record { seat = Contains-elem s.views id view at; held = held }) knows in
    let stands : step_of terms.setup.now.chart s.words hold.region ≡ hold.step = rw early at known in
    sym (steps_of-at terms.setup.now.chart s.words r there ∙ ap (step_of terms.setup.now.chart s.words) (sym region) ∙ stands ∙ seen))

whole-steps : (terms : Terms) (s : FieldState) (id : ℕ) (view : View) → IsStanding terms s → get_elem? s.views id ≡ some view → view.share ≡ terms.seats → IsWhole terms view (steps_of terms.setup.now.chart s.words)
whole-steps terms s id view standing at all = record {
  moves = since-made terms s.words ∙ sym standing.counts.moves ∙ whole_moves terms s id view standing at all;
  reached = λ r there. omega (arith, whole_reach terms s id r view standing at all there, steps_of-at terms.setup.now.chart s.words r there);
}

pub gathering : (terms : Terms) (slots id place : ℕ) (me : Mine) → me.0.terms ≡ terms ∷ [] → me.0.share ≢ 0 → HoldsAll terms me.0 →
    Allows (IsStanding terms) slots id me place (λ n. n) (Gathered (step slots place 0 0 none) me)
gathering terms slots id place me of_field some_share all = λ s standing long at small. (
  gathered me.0,
  keeps,
  tt,
  gathered-keeps terms s place id me.1 me.0 standing at some_share,
  record {
    one_more = refl;
    all = λ other r region. subst (λ (t : Terms). HoldsAll t me.0) (sym (same-terms me.0 terms other of_field region.of_field)) all;
    lawful = λ other r region.
        let one : other ≡ terms = same-terms me.0 terms other of_field region.of_field in
        let seen = seen-steps terms s id me.0 standing at all in
        subst (λ (t : Terms). AreLawful t.setup.now.net t.setup.now.chart.cut me.0.seen) (sym one) (subst (AreLawful terms.setup.now.net terms.setup.now.chart.cut) (sym seen) standing.steps.lawful);
    started = λ other r region.
        let one : other ≡ terms = same-terms me.0 terms other of_field region.of_field in
        let there : r < region_count terms.setup.now.chart.cut = rw one at region.there in
        let seen = seen-steps terms s id me.0 standing at all in
        subst (λ (t : Terms). slice_index t.setup.now.start.steps r ≤ slice_index me.0.seen r) (sym one)
        (omega (arith, standing.steps.started r there, ap (λ l. slice_index l r) seen, steps_of-at terms.setup.now.chart s.words r there));
    whole = λ other r region share.
        let one : other ≡ terms = same-terms me.0 terms other of_field region.of_field in
        let seen = seen-steps terms s id me.0 standing at all in
        subst (λ (t : Terms). IsWhole t me.0 me.0.seen) (sym one)
        (subst (IsWhole terms me.0) (sym seen) (whole-steps terms s id me.0 standing at (share ∙ ap (λ (t : Terms). t.seats) one)));
  },
)

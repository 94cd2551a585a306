-- A look at a border word of a cleared neighbour.
use Rattle.std.specs.List.{Contains}
use Rattle.std.proofs.Common.{◌≡◌, ◌≢◌, ℕ, ◌%◌, ◌<◌, true, [], ◌∷◌, refl, sym, ap, subst, ◌∙◌}
use mathlib.Core.Option.{none, some}
use lib.ListN.{get_elem?}
use Rattle.atomic_table.specs.Table.{Allows, keeps, step}
use Rattle.region_cut.specs.Chart.{IsChart}
use Rattle.region_cut.specs.Cuttings.{region_count}
use Rattle.region_cut.specs.Neighbours.{are_neighbours}
use Rattle.region_step.specs.Grid.{grid_held}
use Rattle.border_rows.specs.Places.{HasRowWord, row_place, width_at, widths_of}
use Rattle.border_rows.specs.Standing.{FieldState, IsStanding}
use Rattle.border_rows.specs.Words.{border_cell, border_word}
use Rattle.border_rows.specs.declared.view.Hold.{Hold}
use Rattle.border_rows.specs.declared.view.Terms.{Terms}
use Rattle.border_rows.specs.declared.view.View.{View}
use Rattle.border_rows.proofs.ClaimKinds.{within-widths}
use Rattle.border_rows.proofs.Keeping.{neighbours-there}
use Rattle.border_rows.proofs.PlaceLaws.{rows-same}
use Rattle.border_rows.proofs.RowKinds.{IsWorking, border-read, border-read-keeps}
use Rattle.border_rows.proofs.WordUpdates.{row-word}
use Rattle.region_slots.specs.FieldView.{IsWorkingAt}
use Rattle.region_slots.specs.Plays.{Mine, Read}
use Rattle.region_slots.proofs.Claiming.{same-terms}
use Rattle.region_slots.proofs.Comparing.{same-hold}

-- what the rule says of a seat at work
pub working : (terms : Terms) (s : FieldState) (id : ℕ) (view : View) (hold : Hold) → IsChart terms.setup.now.chart → IsStanding terms s → get_elem? s.views id ≡ some view → view.share ≢ 0 →
    (works : IsWorkingAt view hold) → IsWorking terms s id view hold works.later
working terms s id view hold chart standing at share works =
    record { standing = standing; charted = chart; seat = at; share = share; held = works.holds; known = works.known; early = works.early }

-- what a look at the word of border cell j of neighbour q in its row of the hold's step may be told
pub reading : (terms : Terms) (slots id q j : ℕ) (me : Mine) (hold : Hold) → IsChart terms.setup.now.chart → me.0.terms ≡ terms ∷ [] → me.0.share ≢ 0 → IsWorkingAt me.0 hold →
    are_neighbours terms.setup.now.net.connectors terms.setup.now.chart.cut hold.region q ≡ true → Contains hold.cleared q → j < width_at (widths_of terms.setup.now.chart) q →
    Allows (IsStanding terms) slots id me (row_place (widths_of terms.setup.now.chart) q (hold.step % 2) j) (λ n. n)
    (Read (step slots (row_place (widths_of terms.setup.now.chart) q (hold.step % 2) j) 0 0 none) me)
reading terms slots id q j me hold chart of_field share works near has inside = λ s standing long at small.
    let there : q < region_count terms.setup.now.chart.cut = (neighbours-there terms.setup.now.net terms.setup.now.chart hold.region q near).1 in
    let working_now : IsWorking terms s id me.0 hold works.later = working terms s id me.0 hold chart standing at share works in
    let read : border_word terms.setup.now.chart s.words q hold.step j ≡ grid_held terms.setup.now.net terms.setup.now.chart.cut terms.setup.now.start hold.step (border_cell terms.setup.now.chart q j) =
    border-read terms s id me.0 hold works.later q j working_now has inside in (
      me.0,
      keeps,
      tt,
      border-read-keeps terms s id me.1 me.0 hold works.later q j working_now,
      record {
        same = refl;
        held = λ other p i h beside cleared within same.
            let one : other ≡ terms = same-terms me.0 terms other of_field beside.region.of_field in
            let is : h ≡ hold = same-hold me.0.holds hold h works.later beside.later works.holds beside.holds in
            let also : HasRowWord (widths_of terms.setup.now.chart) p (hold.step % 2) i =
            row-word terms.setup.now.chart p hold.step i (within-widths terms.setup.now.chart p chart (rw one at beside.region.there)) (rw one at within) in
            let own : HasRowWord (widths_of terms.setup.now.chart) q (hold.step % 2) j = row-word terms.setup.now.chart q hold.step j (within-widths terms.setup.now.chart q chart there) inside in
            let places : row_place (widths_of terms.setup.now.chart) q (hold.step % 2) j ≡ row_place (widths_of terms.setup.now.chart) p (hold.step % 2) i =
            subst (λ (t : Terms). row_place (widths_of terms.setup.now.chart) q (hold.step % 2) j ≡ row_place (widths_of t.setup.now.chart) p (hold.step % 2) i) one
            (subst (λ (x : Hold). row_place (widths_of terms.setup.now.chart) q (hold.step % 2) j ≡ row_place (widths_of other.setup.now.chart) p (x.step % 2) i) is same) in
            let all = rows-same (widths_of terms.setup.now.chart) q p (hold.step % 2) (hold.step % 2) j i own also places in
            read ∙ ap (λ n. grid_held terms.setup.now.net terms.setup.now.chart.cut terms.setup.now.start hold.step (border_cell terms.setup.now.chart n j)) all.0 ∙
            ap (λ n. grid_held terms.setup.now.net terms.setup.now.chart.cut terms.setup.now.start hold.step (border_cell terms.setup.now.chart p n)) all.2 ∙
            ap (λ (x : Hold). grid_held terms.setup.now.net terms.setup.now.chart.cut terms.setup.now.start x.step (border_cell terms.setup.now.chart p i)) (sym is) ∙
            ap (λ (t : Terms). grid_held t.setup.now.net t.setup.now.chart.cut t.setup.now.start h.step (border_cell t.setup.now.chart p i)) (sym one);
      },
    )

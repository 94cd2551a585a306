-- A store of a border word, and of a step word.
use Rattle.std.specs.Prelude.{slice_index}
use Rattle.std.proofs.Common.{◌≡◌, ◌≢◌, ℕ, ◌+◌, ◌%◌, ◌<◌, ◌≤◌, [], ◌∷◌, refl, sym, ap, subst, arith}
use mathlib.Core.Option.{none}
use Rattle.atomic_table.specs.Table.{Allows, keeps, step}
use Rattle.region_cut.specs.Chart.{IsChart}
use Rattle.region_cut.specs.Cuttings.{region_count}
use Rattle.region_step.specs.Grid.{grid_held}
use Rattle.border_rows.specs.Kinds.{published, wrote}
use Rattle.border_rows.specs.Places.{row_place, step_place, width_at, widths_of}
use Rattle.border_rows.specs.Standing.{IsStanding}
use Rattle.border_rows.specs.Words.{border_cell, step_of}
use Rattle.border_rows.specs.declared.view.Hold.{Hold}
use Rattle.border_rows.specs.declared.view.Terms.{Terms}
use Rattle.border_rows.proofs.RowKinds.{AllCleared, published-keeps, working-step, wrote-keeps}
use Rattle.region_slots.specs.FieldView.{IsWorkingAt}
use Rattle.region_slots.specs.Plays.{Mine, Published, Written}
use Rattle.region_slots.proofs.Claiming.{same-terms}
use Rattle.region_slots.proofs.Comparing.{same-step}
use Rattle.region_slots.proofs.Looking.{found-step}
use Rattle.region_slots.proofs.Reading.{working}

-- the next word of the row of the step to come may be written
pub writing : (terms : Terms) (slots id n : ℕ) (me : Mine) (hold : Hold) → IsChart terms.setup.now.chart → me.0.terms ≡ terms ∷ [] → me.0.share ≢ 0 → IsWorkingAt me.0 hold → AllCleared terms hold →
    hold.written < width_at (widths_of terms.setup.now.chart) hold.region →
    n ≡ grid_held terms.setup.now.net terms.setup.now.chart.cut terms.setup.now.start (hold.step + 1) (border_cell terms.setup.now.chart hold.region hold.written) →
    Allows (IsStanding terms) slots id me (row_place (widths_of terms.setup.now.chart) hold.region ((hold.step + 1) % 2) hold.written) (λ old. n)
    (λ old. Written (step slots (row_place (widths_of terms.setup.now.chart) hold.region ((hold.step + 1) % 2) hold.written) n 0 none) me n)
writing terms slots id n me hold chart of_field share works all inside is_n = λ s standing long at small. (
  wrote me.0,
  keeps,
  tt,
  wrote-keeps terms s id me.1 me.0 hold works.later n (working terms s id me.0 hold chart standing at share works) inside all is_n,
  record { one_more = refl },
)

-- the step to come may be published once its row is whole
pub publishing : (terms : Terms) (slots id : ℕ) (me : Mine) (hold : Hold) → IsChart terms.setup.now.chart → me.0.terms ≡ terms ∷ [] → me.0.share ≢ 0 → IsWorkingAt me.0 hold → AllCleared terms hold →
    hold.region < region_count terms.setup.now.chart.cut →
    hold.written ≡ width_at (widths_of terms.setup.now.chart) hold.region → hold.step < terms.setup.now.net.steps →
    Allows (IsStanding terms) slots id me (step_place (widths_of terms.setup.now.chart) hold.region) (λ old. hold.step + 1)
    (λ old. Published (step slots (step_place (widths_of terms.setup.now.chart) hold.region) (hold.step + 1) 0 none) me (hold.step + 1))
publishing terms slots id me hold chart of_field share works all within full below = λ s standing long at small. (
  published me.0 hold.region (hold.step + 1),
  keeps,
  tt,
  published-keeps terms s id me.1 me.0 hold works.later (working terms s id me.0 hold chart standing at share works) full all below,
  record {
    risen = λ other r region same.
        let one : other ≡ terms = same-terms me.0 terms other of_field region.of_field in
        let is : r ≡ hold.region = same-step terms hold.region r chart within (rw one at region.there) (rw one at same) in
        ap (λ p. (published me.0 p (hold.step + 1), me.1)) (sym is);
    later = λ other r region same.
        let one : other ≡ terms = same-terms me.0 terms other of_field region.of_field in
        let is : r ≡ hold.region = same-step terms hold.region r chart within (rw one at region.there) (rw one at same) in
        let own : step_of terms.setup.now.chart s.words hold.region ≡ hold.step = working-step terms s id me.0 hold works.later (working terms s id me.0 hold chart standing at share works) in
        let seen = (found-step terms s id hold.region me.0 standing at within).later in
        subst (λ p. slice_index me.0.seen p ≤ hold.step + 1) (sym is) (omega (arith, seen, own));
  },
)

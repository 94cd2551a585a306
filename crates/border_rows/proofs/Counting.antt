-- The counts of the rule follow what a step publishes.
use Rattle.std.specs.Prelude.{slice_index, sum_by}
use Rattle.std.specs.List.{Contains, range_with_len, sum}
use Rattle.std.proofs.Common.{◌≡◌, ◌≢◌, ◌⊎◌, ℕ, ◌+◌, ◌-◌, ◌<◌, ◌≤◌, inl, inr, List, length, set, sym, ap, subst, ◌∙◌, arith}
use Rattle.std.proofs.lemmas.List.Sums.{sum-map}
use mathlib.Core.Option.{some}
use mathlib.Core.Option as maybe
use lib.ListN.{get_elem?}
use Rattle.region_cut.specs.Chart.{ChartLists}
use Rattle.region_cut.specs.Cuttings.{region_count}
use Rattle.region_step.specs.Region.{RegionValue}
use Rattle.region_step.specs.Start.{StartLists}
use Rattle.region_step.proofs.Lists.{map_range_same}
use Rattle.border_rows.specs.Standing.{Counts, FieldState, steps_made, times_made}
use Rattle.border_rows.specs.Views.{times_in}
use Rattle.border_rows.specs.Words.{step_of}
use Rattle.border_rows.specs.declared.view.Terms.{Terms}
use Rattle.border_rows.specs.declared.view.View.{View}
use Rattle.border_rows.proofs.Keeping.{SameSteps}
use Rattle.border_rows.proofs.Logs.{times_made-same}
use Rattle.border_rows.proofs.ViewUpdates.{Contains-elem, Contains-set, set-Contains, set-keeps, sum-set}

-- what a view has counted follows what is published: no region falls back
pub record IsCounted (terms : Terms) (before after : List ℕ) (view w : View) : Type 0 where
  pub rises : (r : ℕ) → r < region_count terms.setup.now.chart.cut → step_of terms.setup.now.chart before r ≤ step_of terms.setup.now.chart after r
  pub alike : w.terms ≡ view.terms
  pub share : w.share ≡ view.share
  pub long : length w.seen ≡ length view.seen
  pub seen : (r : ℕ) → r < region_count terms.setup.now.chart.cut → slice_index w.seen r ≤ step_of terms.setup.now.chart after r
  pub moves : length w.log + steps_made terms.setup.now.chart terms.setup.now.start before ≡ length view.log + steps_made terms.setup.now.chart terms.setup.now.start after
  pub logged : (r s : ℕ) → times_in w.log r s + times_made terms.setup.now.chart terms.setup.now.start before r s ≡ times_in view.log r s + times_made terms.setup.now.chart terms.setup.now.start after r s
  pub further : view.reach ≤ w.reach
  pub reach : (r : ℕ) → r < region_count terms.setup.now.chart.cut →
      (step_of terms.setup.now.chart after r ≡ step_of terms.setup.now.chart before r) ⊎ (step_of terms.setup.now.chart after r ≤ w.reach)

-- then the counts stay right
pub counts-after : (terms : Terms) (s : FieldState) (words : List ℕ) (homes : List (maybe.Option RegionValue)) (id : ℕ) (view w : View) →
    Counts terms terms.setup.now.chart terms.setup.now.start terms.seats s → get_elem? s.views id ≡ some view → view.share ≢ 0 → IsCounted terms s.words words view w →
    Counts terms terms.setup.now.chart terms.setup.now.start terms.seats (record { words = words; homes = homes; views = set s.views id w })
counts-after terms s words homes id view w old seat share counted =
    let chart : ChartLists = terms.setup.now.chart in
    let here : Contains s.views view = Contains-elem s.views id view seat in
    let new : Contains (set s.views id w) w = set-Contains s.views id w view seat in
    record {
      lengths = λ v has some_share. elim (Contains-set s.views id w v has) [
        | inl is ↦ ap (λ (x : View). length x.seen) is ∙ counted.long ∙ old.lengths view here share
        | inr was ↦ old.lengths v was some_share
      ];
      seen = λ v r has within. elim (Contains-set s.views id w v has) [
        | inl is ↦ subst (λ (x : View). slice_index x.seen r ≤ step_of chart words r) (sym is) (counted.seen r within)
        | inr was ↦ omega (arith, old.seen v r was within, counted.rises r within)
      ];
      shares = omega (arith, sum-set (λ (x : View). x.share) s.views id w view seat, counted.share, old.shares);
      spent = λ v has none. elim (Contains-set s.views id w v has) [
        | inl is ↦ absurd (share (sym counted.share ∙ sym (ap (λ (x : View). x.share) is) ∙ none))
        | inr was ↦ old.spent v was none
      ];
      moves = omega (arith, sum-set (λ (x : View). length x.log) s.views id w view seat, counted.moves, old.moves);
      logged = λ r step. omega (arith, sum-set (λ (x : View). times_in x.log r step) s.views id w view seat, counted.logged r step, old.logged r step);
      reach = λ r within. elim (counted.reach r within) [
        | inr far ↦ inr (w, new, far)
        | inl same ↦ elim (old.reach r within) [
          | inl low ↦ inl (omega (arith, same, low))
          | inr some_view ↦ elim (set-keeps s.views id w view some_view.0 seat some_view.1) [
            | inl is ↦ inr (w, new, omega (arith, same, some_view.2, ap (λ (x : View). x.reach) is, counted.further))
            | inr has ↦ inr (some_view.0, has, omega (arith, same, some_view.2))
          ]
        ]
      ];
      alike = λ v has some_share. elim (Contains-set s.views id w v has) [
        | inl is ↦ ap (λ (x : View). x.terms) is ∙ counted.alike ∙ old.alike view here share
        | inr was ↦ old.alike v was some_share
      ];
    }

-- sums over the regions whose terms are the same
pub sum-range-same : (f g : ℕ → ℕ) (n : ℕ) → ((p : ℕ) → p < n → f p ≡ g p) → sum_by f (range_with_len 0 n) ≡ sum_by g (range_with_len 0 n)
sum-range-same f g n same = sym (sum-map f (range_with_len 0 n)) ∙ ap sum (map_range_same f g n same) ∙ sum-map g (range_with_len 0 n)

-- where no step is published, as many were made
steps_made-same : (chart : ChartLists) (start : StartLists) (before after : List ℕ) → SameSteps chart before after →
    steps_made chart start after ≡ steps_made chart start before
steps_made-same chart start before after same =
    sum-range-same (λ r. step_of chart after r - slice_index start.steps r) (λ r. step_of chart before r - slice_index start.steps r) (region_count chart.cut)
    (λ r within. ap (λ t. t - slice_index start.steps r) (same r within))

-- a view that has published nothing more, and has seen no more than there is
pub record IsQuiet (terms : Terms) (words : List ℕ) (view w : View) : Type 0 where
  pub alike : w.terms ≡ view.terms
  pub share : w.share ≡ view.share
  pub log : w.log ≡ view.log
  pub reach : w.reach ≡ view.reach
  pub long : length w.seen ≡ length view.seen
  pub seen : (r : ℕ) → r < region_count terms.setup.now.chart.cut → slice_index w.seen r ≤ step_of terms.setup.now.chart words r

-- then nothing more is to be counted
pub quiet-counted : (terms : Terms) (before after : List ℕ) (view w : View) → SameSteps terms.setup.now.chart before after → IsQuiet terms after view w → IsCounted terms before after view w
quiet-counted terms before after view w same is = record {
  rises = λ r within. omega (arith, same r within);
  alike = is.alike;
  share = is.share;
  long = is.long;
  seen = is.seen;
  moves = omega (arith, ap length is.log, steps_made-same terms.setup.now.chart terms.setup.now.start before after same);
  logged = λ r s. omega (arith, ap (λ log. times_in log r s) is.log, times_made-same terms.setup.now.chart terms.setup.now.start before after r s same);
  further = omega (arith, is.reach);
  reach = λ r within. inl (same r within);
}

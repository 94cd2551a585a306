-- How often a step of a region stands in a log, and how often it was made.
use Rattle.std.specs.Prelude.{slice_index, if◌then◌else◌, nat_lt, nat_le, ◌==◌, ◌&&◌}
use Rattle.std.proofs.Common.{◌≡◌, ◌≢◌, ◌⊎◌, ℕ, ◌+◌, ◌<◌, ◌≤◌, inl, inr, List, ◌++◌, refl, sym, ap, subst, arith}
use Rattle.std.proofs.lemmas.Bool.{cases_eq, cases_lt, eq-eqb, le-leb, le-ltb, lt-leb, lt-ltb, ne_eqb}
use Rattle.std.proofs.lemmas.List.Sums.{sum_by-append}
use Rattle.region_cut.specs.Chart.{ChartLists}
use Rattle.region_cut.specs.Cuttings.{region_count}
use Rattle.region_step.specs.Start.{StartLists}
use Rattle.border_rows.specs.Standing.{times_made}
use Rattle.border_rows.specs.Views.{times_in}
use Rattle.border_rows.specs.Words.{step_of}
use Rattle.border_rows.specs.declared.view.PublishedStep.{PublishedStep}
use Rattle.border_rows.proofs.Keeping.{SameSteps}

-- in two logs, one after the other
pub times_in-append : (one other : List PublishedStep) (r s : ℕ) → times_in (one ++ other) r s ≡ times_in one r s + times_in other r s
times_in-append one other r s = sum_by-append (λ (entry : PublishedStep). if (entry.region == r) && (entry.step == s) then 1 else 0) one other

-- where no region publishes, as often as before
pub times_made-same : (chart : ChartLists) (start : StartLists) (before after : List ℕ) (r s : ℕ) → SameSteps chart before after →
    times_made chart start after r s ≡ times_made chart start before r s
times_made-same chart start before after r s same = elim (cases_lt r (region_count chart.cut)) [
  | inl within ↦ ap (λ step. if nat_lt r (region_count chart.cut) && (nat_lt (slice_index start.steps r) s && nat_le s step) then 1 else 0) (same r within)
  | inr past ↦ rw (le-ltb r (region_count chart.cut) past) refl
]

-- where each region stands at its start, never
pub times_made-none : (chart : ChartLists) (start : StartLists) (words : List ℕ) (r s : ℕ) →
    ((q : ℕ) → q < region_count chart.cut → step_of chart words q ≡ slice_index start.steps q) → times_made chart start words r s ≡ 0
times_made-none chart start words r s at_start = elim (cases_lt r (region_count chart.cut)) [
  | inr past ↦ rw (le-ltb r (region_count chart.cut) past) refl
  | inl within ↦ elim (cases_lt (slice_index start.steps r) s) [
    | inr low ↦ rw (lt-ltb r (region_count chart.cut) within, le-ltb (slice_index start.steps r) s low) refl
    | inl later ↦
        rw (lt-ltb r (region_count chart.cut) within, lt-ltb (slice_index start.steps r) s later, lt-leb s (step_of chart words r) (omega (arith, at_start r within, later))) refl
  ]
]

-- where region r publishes step t + 1, that step once more
pub times_made-more : (chart : ChartLists) (start : StartLists) (before after : List ℕ) (r q s t : ℕ) → r < region_count chart.cut → slice_index start.steps r ≤ t →
    step_of chart before r ≡ t → step_of chart after r ≡ t + 1 → ((p : ℕ) → p < region_count chart.cut → p ≢ r → step_of chart after p ≡ step_of chart before p) →
    times_made chart start after q s ≡ (if (r == q) && (t + 1 == s) then 1 else 0) + times_made chart start before q s
times_made-more chart start before after r q s t within started was own others = elim (cases_eq r q) [
  | inr apart ↦
      let same : times_made chart start after q s ≡ times_made chart start before q s = elim (cases_lt q (region_count chart.cut)) [
        | inl there ↦
            ap (λ step. if nat_lt q (region_count chart.cut) && (nat_lt (slice_index start.steps q) s && nat_le s step) then 1 else 0)
            (others q there (λ is. apart (sym is)))
        | inr past ↦ rw (le-ltb q (region_count chart.cut) past) refl
      ] in
      rw (ne_eqb r q apart) (omega (arith, same))
  | inl is ↦
      subst (λ p. times_made chart start after p s ≡ (if (r == p) && (t + 1 == s) then 1 else 0) + times_made chart start before p s) is
      (rw (eq-eqb r r refl, own, was, lt-ltb r (region_count chart.cut) within)
      (elim (cases_eq (t + 1) s) [
        | inl here ↦
            rw (eq-eqb (t + 1) s here, lt-ltb (slice_index start.steps r) s (omega (arith, here, started)), le-leb s (t + 1) (omega (arith, here)), lt-leb s t (omega (arith, here))) refl
        | inr other ↦ elim (cases_lt s (t + 1)) [
          | inl low ↦ rw (ne_eqb (t + 1) s other, le-leb s (t + 1) (omega (arith, low)), le-leb s t (omega (arith, low))) (omega arith)
          | inr high ↦ rw (ne_eqb (t + 1) s other, lt-leb s (t + 1) (omega (arith, high, other)), lt-leb s t (omega (arith, high))) (omega arith)
        ]
      ]))
]

-- a step since its start up to that at which the region stands, once
pub times_made-one : (chart : ChartLists) (start : StartLists) (words : List ℕ) (r s : ℕ) → r < region_count chart.cut → slice_index start.steps r < s → s ≤ step_of chart words r →
    times_made chart start words r s ≡ 1
times_made-one chart start words r s within later there =
    rw (lt-ltb r (region_count chart.cut) within, lt-ltb (slice_index start.steps r) s later, le-leb s (step_of chart words r) there) refl

-- any other never
pub times_made-other : (chart : ChartLists) (start : StartLists) (words : List ℕ) (r s : ℕ) →
    (region_count chart.cut ≤ r) ⊎ ((s ≤ slice_index start.steps r) ⊎ (step_of chart words r < s)) → times_made chart start words r s ≡ 0
times_made-other chart start words r s (inl past) = rw (le-ltb r (region_count chart.cut) past) refl
times_made-other chart start words r s (inr (inl early)) = elim (cases_lt r (region_count chart.cut)) [
  | inr past ↦ rw (le-ltb r (region_count chart.cut) past) refl
  | inl within ↦ rw (lt-ltb r (region_count chart.cut) within, le-ltb (slice_index start.steps r) s early) refl
]
times_made-other chart start words r s (inr (inr late)) = elim (cases_lt r (region_count chart.cut)) [
  | inr past ↦ rw (le-ltb r (region_count chart.cut) past) refl
  | inl within ↦ elim (cases_lt (slice_index start.steps r) s) [
    | inr early ↦ rw (lt-ltb r (region_count chart.cut) within, le-ltb (slice_index start.steps r) s early) refl
    | inl later ↦ rw (lt-ltb r (region_count chart.cut) within, lt-ltb (slice_index start.steps r) s later, lt-leb s (step_of chart words r) late) refl
  ]
]

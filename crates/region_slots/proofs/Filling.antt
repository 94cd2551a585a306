-- The words of a region are filled as a field opens.
use Rattle.std.specs.Prelude.{slice_index}
use Rattle.std.proofs.Common.{◌≡◌, ◌≢◌, ℕ, ◌+◌, ◌-◌, ◌<◌, ◌%◌, inl, inr, List, length, replicate, set, sym, subst, ◌∙◌, arith}
use Rattle.std.proofs.lemmas.Bool.{cases_lt}
use Rattle.std.proofs.lemmas.List.{get_or-replicate, length-replicate, length-set}
use Rattle.flow_model.specs.State.{occupancy}
use Rattle.region_cut.specs.Chart.{ChartLists, IsChart}
use Rattle.region_cut.specs.Cuttings.{region_count}
use Rattle.region_step.specs.Start.{StartLists}
use Rattle.border_rows.specs.Places.{claim_place, row_place, step_place, width_at, widths_of, words_of}
use Rattle.border_rows.specs.Words.{border_cell, border_word, claim_of, step_of}
use Rattle.border_rows.proofs.ClaimKinds.{within-widths}
use Rattle.border_rows.proofs.PlaceLaws.{claim-there}
use Rattle.border_rows.proofs.WordUpdates.{border-set, border-set-claim, border-set-other, border-set-step, step-set, step-set-border, step-set-claim, step-set-other}
use Rattle.region_slots.specs.FirstWords.{AreFirstRows, AreFirstWords, OnlyThose}

-- the words of region r are filled as far as border cell k
pub record IsFilling (chart : ChartLists) (start : StartLists) (before after : List ℕ) (r k : ℕ) : Type 0 where
  pub only : OnlyThose chart before after r
  pub step : step_of chart after r ≡ slice_index start.steps r
  pub rows : AreFirstRows chart start after r k

-- the step word comes first
pub filling-zero : (chart : ChartLists) (start : StartLists) (words : List ℕ) (r s : ℕ) → IsChart chart → r < region_count chart.cut → length words ≡ words_of (widths_of chart) →
    s ≡ slice_index start.steps r → IsFilling chart start words (set words (step_place (widths_of chart) r) s) r 0
filling-zero chart start words r s sound within long is = record {
  only = record {
    long = length-set words (step_place (widths_of chart) r) s;
    claims = λ q there. step-set-claim chart words r q s (within-widths chart r sound within) (within-widths chart q sound there);
    steps = λ q there other. step-set-other chart words r q s (within-widths chart r sound within) (within-widths chart q sound there) other;
    rows = λ q t j there other inside. step-set-border chart words r q t j s (within-widths chart r sound within) (within-widths chart q sound there) inside;
  };
  step = step-set chart words r s (within-widths chart r sound within) long ∙ is;
  rows = record { now = λ j none. absurd (omega (arith, none)); before = λ j none. absurd (omega (arith, none)) };
}

-- a row word is of its region
only-row : (chart : ChartLists) (before words : List ℕ) (r u i n : ℕ) → IsChart chart → r < region_count chart.cut → i < width_at (widths_of chart) r →
    OnlyThose chart before words r → OnlyThose chart before (set words (row_place (widths_of chart) r (u % 2) i) n) r
only-row chart before words r u i n sound within inside only = record {
  long = length-set words (row_place (widths_of chart) r (u % 2) i) n ∙ only.long;
  claims = λ q there. border-set-claim chart words r u i q n (within-widths chart r sound within) inside (within-widths chart q sound there) ∙ only.claims q there;
  steps = λ q there other. border-set-step chart words r u i q n (within-widths chart r sound within) inside (within-widths chart q sound there) ∙ only.steps q there other;
  rows = λ q t j there other here.
      border-set-other chart words r u i q t j n (within-widths chart r sound within) inside (within-widths chart q sound there) here (λ same parity cell. other same) ∙
      only.rows q t j there other here;
}

-- the rows of a step and of the next are two
pub other_row : (s : ℕ) → (s + 1) % 2 ≡ 1 - s % 2
other_row s = omega arith

-- then the two words of border cell k
pub filling-more : (chart : ChartLists) (start : StartLists) (before words : List ℕ) (r s k : ℕ) → IsChart chart → r < region_count chart.cut → length before ≡ words_of (widths_of chart) →
    s ≡ slice_index start.steps r → k < width_at (widths_of chart) r → IsFilling chart start before words r k →
    IsFilling chart start before
    (set (set words (row_place (widths_of chart) r (s % 2) k) (occupancy start.rows (border_cell chart r k))) (row_place (widths_of chart) r ((s + 1) % 2) k) (slice_index start.earlier (border_cell chart r k)))
    r (k + 1)
filling-more chart start before words r s k sound within long is inside old = record {
  only = only-row chart before once r (s + 1) k earlier sound within inside only-once;
  step = border-set-step chart once r (s + 1) k r earlier there inside there ∙ border-set-step chart words r s k r held there inside there ∙ old.step;
  rows = record {
    now = λ j below wide. subst (λ t. border_word chart twice r t j ≡ occupancy start.rows (border_cell chart r j)) is (now j below wide);
    before = λ j below wide. subst (λ t. border_word chart twice r (t + 1) j ≡ slice_index start.earlier (border_cell chart r j)) is (past j below wide);
  };
}
  where
    held : ℕ
    held = occupancy start.rows (border_cell chart r k)

    earlier : ℕ
    earlier = slice_index start.earlier (border_cell chart r k)

    once : List ℕ
    once = set words (row_place (widths_of chart) r (s % 2) k) held

    twice : List ℕ
    twice = set once (row_place (widths_of chart) r ((s + 1) % 2) k) earlier

    there : r < length (widths_of chart)
    there = within-widths chart r sound within

    only-once : OnlyThose chart before once r
    only-once = only-row chart before words r s k held sound within inside old.only

    apart : (s + 1) % 2 ≢ s % 2
    apart same = omega (arith, same, other_row s)

    now : (j : ℕ) → j < k + 1 → j < width_at (widths_of chart) r → border_word chart twice r s j ≡ occupancy start.rows (border_cell chart r j)
    now j below wide = border-set-other chart once r (s + 1) k r s j earlier there inside there wide (λ same parity cell. apart (sym parity)) ∙ elim (cases_lt j k) [
      | inl sooner ↦
          border-set-other chart words r s k r s j held there inside there wide (λ same parity cell. omega (arith, cell, sooner)) ∙
          subst (λ t. border_word chart words r t j ≡ occupancy start.rows (border_cell chart r j)) (sym is) (old.rows.now j sooner wide)
      | inr last ↦
          let here : j ≡ k = omega (arith, below, last) in
          subst (λ i. border_word chart once r s i ≡ occupancy start.rows (border_cell chart r i)) (sym here) (border-set chart words r s k held there inside (old.only.long ∙ long))
    ]

    past : (j : ℕ) → j < k + 1 → j < width_at (widths_of chart) r → border_word chart twice r (s + 1) j ≡ slice_index start.earlier (border_cell chart r j)
    past j below wide = elim (cases_lt j k) [
      | inl sooner ↦
          border-set-other chart once r (s + 1) k r (s + 1) j earlier there inside there wide (λ same parity cell. omega (arith, cell, sooner)) ∙
          border-set-other chart words r s k r (s + 1) j held there inside there wide (λ same parity cell. apart parity) ∙
          subst (λ t. border_word chart words r (t + 1) j ≡ slice_index start.earlier (border_cell chart r j)) (sym is) (old.rows.before j sooner wide)
      | inr last ↦
          let here : j ≡ k = omega (arith, below, last) in
          subst (λ i. border_word chart twice r (s + 1) i ≡ slice_index start.earlier (border_cell chart r i)) (sym here)
          (border-set chart once r (s + 1) k earlier there inside (only-once.long ∙ long))
    ]

-- other regions' words stay
first-stay : (chart : ChartLists) (start : StartLists) (before after : List ℕ) (r q : ℕ) → q < region_count chart.cut → q ≢ r → OnlyThose chart before after r →
    AreFirstWords chart start before q → AreFirstWords chart start after q
first-stay chart start before after r q there other only old = record {
  step = only.steps q there other ∙ old.step;
  rows = record {
    now = λ j below wide. only.rows q (slice_index start.steps q) j there other wide ∙ old.rows.now j below wide;
    before = λ j below wide. only.rows q (slice_index start.steps q + 1) j there other wide ∙ old.rows.before j below wide;
  };
}

-- the words of the regions below k are filled, and no region is taken
pub record AreFilled (chart : ChartLists) (start : StartLists) (words : List ℕ) (k : ℕ) : Type 0 where
  pub long : length words ≡ words_of (widths_of chart)
  pub free : (r : ℕ) → r < region_count chart.cut → claim_of chart words r ≡ 0
  pub each : (r : ℕ) → r < region_count chart.cut → r < k → AreFirstWords chart start words r

pub filled-zero : (chart : ChartLists) (start : StartLists) (n : ℕ) → n ≡ words_of (widths_of chart) → IsChart chart → AreFilled chart start (replicate n 0) 0
filled-zero chart start n is sound = record {
  long = length-replicate {A = ℕ} n 0 ∙ is;
  free = λ r there.
      get_or-replicate n (claim_place (widths_of chart) r) 0 0 (omega (arith, is, claim-there (widths_of chart) r (within-widths chart r sound there)));
  each = λ r there none. absurd (omega (arith, none));
}

pub filled-more : (chart : ChartLists) (start : StartLists) (before after : List ℕ) (k : ℕ) → OnlyThose chart before after k → AreFirstWords chart start after k →
    AreFilled chart start before k → AreFilled chart start after (k + 1)
filled-more chart start before after k only new old = record {
  long = only.long ∙ old.long;
  free = λ r there. only.claims r there ∙ old.free r there;
  each = λ r there below. elim (cases_lt r k) [
    | inl sooner ↦ first-stay chart start before after k r there (λ same. omega (arith, same, sooner)) only (old.each r there sooner)
    | inr last ↦ let here : r ≡ k = omega (arith, below, last) in subst (AreFirstWords chart start after) (sym here) new
  ];
}

-- What one changed word leaves of the others.
use Rattle.std.proofs.Common.{◌≡◌, ◌≢◌, ℕ, ◌<◌, ◌%◌, List, length, set, sym, arith}
use Rattle.std.proofs.Math.Nat.{mod-lt}
use Rattle.std.proofs.lemmas.List.{get_or-set_other, get_or-set_same}
use Rattle.region_cut.specs.Chart.{ChartLists}
use Rattle.border_rows.specs.Places.{HasRowWord, claim_place, row_place, step_place, width_at, widths_of, words_of}
use Rattle.border_rows.specs.Words.{border_word, claim_of, step_of}
use Rattle.border_rows.proofs.PlaceLaws.{claim-not-row, claim-not-step, claim-there, claims-differ, row-there, rows-same, step-not-row, step-there, steps-differ}

-- the claim word of region r
pub claim-set : (chart : ChartLists) (words : List ℕ) (r n : ℕ) → r < length (widths_of chart) → length words ≡ words_of (widths_of chart) →
    claim_of chart (set words (claim_place (widths_of chart) r) n) r ≡ n
claim-set chart words r n within long =
    get_or-set_same words (claim_place (widths_of chart) r) n 0 (omega (arith, long, claim-there (widths_of chart) r within))

pub claim-set-other : (chart : ChartLists) (words : List ℕ) (r q n : ℕ) → r < length (widths_of chart) → q < length (widths_of chart) → q ≢ r →
    claim_of chart (set words (claim_place (widths_of chart) r) n) q ≡ claim_of chart words q
claim-set-other chart words r q n within there other =
    get_or-set_other words (claim_place (widths_of chart) r) (claim_place (widths_of chart) q) n 0 (claims-differ (widths_of chart) q r there within other)

pub claim-set-step : (chart : ChartLists) (words : List ℕ) (r q n : ℕ) → r < length (widths_of chart) → q < length (widths_of chart) →
    step_of chart (set words (claim_place (widths_of chart) r) n) q ≡ step_of chart words q
claim-set-step chart words r q n within there =
    get_or-set_other words (claim_place (widths_of chart) r) (step_place (widths_of chart) q) n 0 (λ same. claim-not-step (widths_of chart) r q within there (sym same))

-- the row of a step has one of the two parities
pub row-word : (chart : ChartLists) (r t j : ℕ) → r < length (widths_of chart) → j < width_at (widths_of chart) r → HasRowWord (widths_of chart) r (t % 2) j
row-word chart r t j within inside = record { region = within; row = mod-lt t (omega arith); cell = inside }

pub claim-set-border : (chart : ChartLists) (words : List ℕ) (r q t j n : ℕ) → r < length (widths_of chart) → q < length (widths_of chart) → j < width_at (widths_of chart) q →
    border_word chart (set words (claim_place (widths_of chart) r) n) q t j ≡ border_word chart words q t j
claim-set-border chart words r q t j n within there inside =
    get_or-set_other words (claim_place (widths_of chart) r) (row_place (widths_of chart) q (t % 2) j) n 0
    (λ same. claim-not-row (widths_of chart) r q (t % 2) j within (row-word chart q t j there inside) (sym same))

-- the step word of region r
pub step-set : (chart : ChartLists) (words : List ℕ) (r n : ℕ) → r < length (widths_of chart) → length words ≡ words_of (widths_of chart) →
    step_of chart (set words (step_place (widths_of chart) r) n) r ≡ n
step-set chart words r n within long =
    get_or-set_same words (step_place (widths_of chart) r) n 0 (omega (arith, long, step-there (widths_of chart) r within))

pub step-set-other : (chart : ChartLists) (words : List ℕ) (r q n : ℕ) → r < length (widths_of chart) → q < length (widths_of chart) → q ≢ r →
    step_of chart (set words (step_place (widths_of chart) r) n) q ≡ step_of chart words q
step-set-other chart words r q n within there other =
    get_or-set_other words (step_place (widths_of chart) r) (step_place (widths_of chart) q) n 0 (steps-differ (widths_of chart) q r there within other)

pub step-set-claim : (chart : ChartLists) (words : List ℕ) (r q n : ℕ) → r < length (widths_of chart) → q < length (widths_of chart) →
    claim_of chart (set words (step_place (widths_of chart) r) n) q ≡ claim_of chart words q
step-set-claim chart words r q n within there =
    get_or-set_other words (step_place (widths_of chart) r) (claim_place (widths_of chart) q) n 0 (claim-not-step (widths_of chart) q r there within)

pub step-set-border : (chart : ChartLists) (words : List ℕ) (r q t j n : ℕ) → r < length (widths_of chart) → q < length (widths_of chart) → j < width_at (widths_of chart) q →
    border_word chart (set words (step_place (widths_of chart) r) n) q t j ≡ border_word chart words q t j
step-set-border chart words r q t j n within there inside =
    get_or-set_other words (step_place (widths_of chart) r) (row_place (widths_of chart) q (t % 2) j) n 0
    (λ same. step-not-row (widths_of chart) r q (t % 2) j within (row-word chart q t j there inside) (sym same))

-- the word of border cell i of region r in the row of step u
pub border-set : (chart : ChartLists) (words : List ℕ) (r u i n : ℕ) → r < length (widths_of chart) → i < width_at (widths_of chart) r → length words ≡ words_of (widths_of chart) →
    border_word chart (set words (row_place (widths_of chart) r (u % 2) i) n) r u i ≡ n
border-set chart words r u i n within inside long =
    get_or-set_same words (row_place (widths_of chart) r (u % 2) i) n 0
    (omega (arith, long, row-there (widths_of chart) r (u % 2) i (row-word chart r u i within inside)))

pub border-set-other : (chart : ChartLists) (words : List ℕ) (r u i q t j n : ℕ) → r < length (widths_of chart) → i < width_at (widths_of chart) r →
    q < length (widths_of chart) → j < width_at (widths_of chart) q → (q ≡ r → t % 2 ≡ u % 2 → j ≡ i → ⊥) →
    border_word chart (set words (row_place (widths_of chart) r (u % 2) i) n) q t j ≡ border_word chart words q t j
border-set-other chart words r u i q t j n within inside there here apart =
    get_or-set_other words (row_place (widths_of chart) r (u % 2) i) (row_place (widths_of chart) q (t % 2) j) n 0
    (λ same.
    let all = rows-same (widths_of chart) q r (t % 2) (u % 2) j i (row-word chart q t j there here) (row-word chart r u i within inside) same in
    apart all.0 all.1 all.2)

pub border-set-claim : (chart : ChartLists) (words : List ℕ) (r u i q n : ℕ) → r < length (widths_of chart) → i < width_at (widths_of chart) r → q < length (widths_of chart) →
    claim_of chart (set words (row_place (widths_of chart) r (u % 2) i) n) q ≡ claim_of chart words q
border-set-claim chart words r u i q n within inside there =
    get_or-set_other words (row_place (widths_of chart) r (u % 2) i) (claim_place (widths_of chart) q) n 0
    (claim-not-row (widths_of chart) q r (u % 2) i there (row-word chart r u i within inside))

pub border-set-step : (chart : ChartLists) (words : List ℕ) (r u i q n : ℕ) → r < length (widths_of chart) → i < width_at (widths_of chart) r → q < length (widths_of chart) →
    step_of chart (set words (row_place (widths_of chart) r (u % 2) i) n) q ≡ step_of chart words q
border-set-step chart words r u i q n within inside there =
    get_or-set_other words (row_place (widths_of chart) r (u % 2) i) (step_place (widths_of chart) q) n 0
    (step-not-row (widths_of chart) q r (u % 2) i there (row-word chart r u i within inside))

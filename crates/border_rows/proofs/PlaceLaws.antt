-- The places of words are there, and no two words have one place.
use Rattle.std.proofs.Common.{◌≡◌, ◌≢◌, ℕ, inl, inr, ◌+◌, ◌*◌, ◌<◌, ◌≤◌, List, zero, suc, length, take, refl, ap, arith}
use Rattle.std.proofs.lemmas.Bool.{cases_order}
use Rattle.std.proofs.lemmas.List.{take-take, take_all}
use Rattle.std.proofs.lemmas.List.Sums.{sum_by_more, sum_by-take-le}
use Rattle.border_rows.specs.Places.{HasRowWord, base_of, claim_place, row_place, step_place, width_at, words_of}

-- the words of the next region stand right behind those of region r
pub base_more : (widths : List ℕ) (r : ℕ) → r < length widths → base_of widths (r + 1) ≡ base_of widths r + 2 + 2 * width_at widths r
unfolding words_of
base_more widths r within = omega (arith, sum_by_more (λ width. 2 + 2 * width) widths r 0 within)

-- behind all regions stand all words
pub base_all : (widths : List ℕ) → base_of widths (length widths) ≡ words_of widths
base_all widths = ap words_of (take_all (length widths) widths (omega arith))

-- the words of region q end before those of a region behind it
pub base-le-base : (widths : List ℕ) (q r : ℕ) → q < r → q < length widths → base_of widths q + 2 + 2 * width_at widths q ≤ base_of widths r
unfolding words_of
base-le-base widths q r before within =
    let next = rw (take-take (q + 1) r widths (omega arith)) at (sum_by-take-le (λ width. 2 + 2 * width) (take r widths) (q + 1)) in
    omega (arith, base_more widths q within)

pub base-le-words : (widths : List ℕ) (r : ℕ) → r < length widths → base_of widths r + 2 + 2 * width_at widths r ≤ words_of widths
base-le-words widths r within = omega (arith, base-le-base widths r (length widths) within within, base_all widths)

-- a place within two rows
pub rows_within : (width parity j : ℕ) → parity < 2 → j < width → parity * width + j < 2 * width
rows_within width zero j small inside = omega arith
rows_within width (suc zero) j small inside = omega arith
rows_within width (suc (suc parity)) j small inside = absurd (omega arith)

-- each place is there

pub claim-there : (widths : List ℕ) (r : ℕ) → r < length widths → claim_place widths r < words_of widths
claim-there widths r within = omega (arith, base-le-words widths r within)

pub step-there : (widths : List ℕ) (r : ℕ) → r < length widths → step_place widths r < words_of widths
step-there widths r within = omega (arith, base-le-words widths r within)

pub row-there : (widths : List ℕ) (r parity j : ℕ) → HasRowWord widths r parity j → row_place widths r parity j < words_of widths
row-there widths r parity j has = omega (arith, base-le-words widths r has.region, rows_within (width_at widths r) parity j has.row has.cell)

-- words at one place are of one region
one_region : (widths : List ℕ) (r q i j : ℕ) → r < length widths → q < length widths → i < 2 + 2 * width_at widths r → j < 2 + 2 * width_at widths q →
    base_of widths r + i ≡ base_of widths q + j → r ≡ q
one_region widths r q i j there also within inside same = elim (cases_order r q) [
  | inl is ↦ is
  | inr (inl before) ↦ absurd (omega (arith, base-le-base widths r q before there))
  | inr (inr behind) ↦ absurd (omega (arith, base-le-base widths q r behind also))
]

-- places differ

pub claims-differ : (widths : List ℕ) (r q : ℕ) → r < length widths → q < length widths → r ≢ q → claim_place widths r ≢ claim_place widths q
claims-differ widths r q there also other same = other (one_region widths r q 0 0 there also (omega arith) (omega arith) (omega arith))

pub steps-differ : (widths : List ℕ) (r q : ℕ) → r < length widths → q < length widths → r ≢ q → step_place widths r ≢ step_place widths q
steps-differ widths r q there also other same = other (one_region widths r q 1 1 there also (omega arith) (omega arith) same)

pub claim-not-step : (widths : List ℕ) (r q : ℕ) → r < length widths → q < length widths → claim_place widths r ≢ step_place widths q
claim-not-step widths r q there also same =
    let is = one_region widths r q 0 1 there also (omega arith) (omega arith) (omega arith) in
    omega (arith, ap (base_of widths) is)

pub claim-not-row : (widths : List ℕ) (r q parity j : ℕ) → r < length widths → HasRowWord widths q parity j → claim_place widths r ≢ row_place widths q parity j
claim-not-row widths r q parity j there has same =
    let inside = rows_within (width_at widths q) parity j has.row has.cell in
    let is = one_region widths r q 0 (2 + parity * width_at widths q + j) there has.region (omega arith) (omega arith) (omega arith) in
    omega (arith, ap (base_of widths) is)

pub step-not-row : (widths : List ℕ) (r q parity j : ℕ) → r < length widths → HasRowWord widths q parity j → step_place widths r ≢ row_place widths q parity j
step-not-row widths r q parity j there has same =
    let inside = rows_within (width_at widths q) parity j has.row has.cell in
    let is = one_region widths r q 1 (2 + parity * width_at widths q + j) there has.region (omega arith) (omega arith) (omega arith) in
    omega (arith, ap (base_of widths) is)

-- places within two rows each, of one width
one_row : (v w p s i j : ℕ) → v ≡ w → p < 2 → s < 2 → i < v → j < w → p * v + i ≡ s * w + j → (p ≡ s) × (i ≡ j)
one_row v w zero zero i j wide small also within inside same = (refl, omega arith)
one_row v w zero (suc zero) i j wide small also within inside same = absurd (omega arith)
one_row v w (suc zero) zero i j wide small also within inside same = absurd (omega arith)
one_row v w (suc zero) (suc zero) i j wide small also within inside same = (refl, omega arith)
one_row v w (suc (suc p)) s i j wide small also within inside same = absurd (omega arith)
one_row v w zero (suc (suc s)) i j wide small also within inside same = absurd (omega arith)
one_row v w (suc zero) (suc (suc s)) i j wide small also within inside same = absurd (omega arith)

-- row words at one place are one
pub rows-same : (widths : List ℕ) (r q parity other i j : ℕ) → HasRowWord widths r parity i → HasRowWord widths q other j →
    row_place widths r parity i ≡ row_place widths q other j → (r ≡ q) × (parity ≡ other) × (i ≡ j)
rows-same widths r q parity other i j has also same =
    let within = rows_within (width_at widths r) parity i has.row has.cell in
    let inside = rows_within (width_at widths q) other j also.row also.cell in
    let is = one_region widths r q (2 + parity * width_at widths r + i) (2 + other * width_at widths q + j) has.region also.region (omega arith) (omega arith) (omega arith) in
    let word = one_row (width_at widths r) (width_at widths q) parity other i j (ap (width_at widths) is) has.row also.row has.cell also.cell (omega (arith, ap (base_of widths) is)) in
    (is, word.0, word.1)

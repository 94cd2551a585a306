-- The places of words in a table. The regions' words stand one region after the other: of each region its claim word,
-- its step word, a row of a word for each border cell, and a second such row.
use Rattle.std.specs.Prelude.{◌≡◌, ℕ, ◌+◌, ◌*◌, ◌<◌, List, length, map, slice_index, take}
use Rattle.std.specs.List.{sum_by}
use Rattle.region_cut.specs.Chart.{ChartLists}

-- how many border cells each region of a chart has
abbrev pub widths_of : ChartLists → List ℕ
widths_of chart = map length chart.border

-- how many region r has
abbrev pub width_at : (widths : List ℕ) → (r : ℕ) → ℕ
width_at widths r = slice_index widths r

-- how many words all regions have
unfoldable pub words_of : (widths : List ℕ) → ℕ
words_of widths = sum_by (λ width. 2 + 2 * width) widths

-- how many words the regions below r have, before its own
abbrev pub base_of : (widths : List ℕ) → (r : ℕ) → ℕ
base_of widths r = words_of (take r widths)

-- the place of the claim word of region r
abbrev pub claim_place : (widths : List ℕ) → (r : ℕ) → ℕ
claim_place widths r = base_of widths r

-- the place of its step word
abbrev pub step_place : (widths : List ℕ) → (r : ℕ) → ℕ
step_place widths r = base_of widths r + 1

-- the place of the word of its border cell j in the row of a parity, 0 or 1
abbrev pub row_place : (widths : List ℕ) → (r parity j : ℕ) → ℕ
row_place widths r parity j = base_of widths r + 2 + parity * width_at widths r + j

-- border cell j of region r has a word in the row of this parity
pub record HasRowWord (widths : List ℕ) (r parity j : ℕ) : Type 0 where
  pub region : r < length widths
  pub row : parity < 2
  pub cell : j < width_at widths r

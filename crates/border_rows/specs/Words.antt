-- What the words of a table say of the regions.
use Rattle.std.specs.Prelude.{ℕ, ◌%◌, List, map, slice_index}
use Rattle.std.specs.List.{range_with_len}
use Rattle.region_cut.specs.Chart.{ChartLists, list_at}
use Rattle.region_cut.specs.Cuttings.{region_count}
use Rattle.border_rows.specs.Places.{claim_place, row_place, step_place, widths_of}

-- 1 where region r is taken, 0 where it is free
abbrev pub claim_of : ChartLists → (words : List ℕ) → (r : ℕ) → ℕ
claim_of chart words r = slice_index words (claim_place (widths_of chart) r)

-- the step that region r has published
abbrev pub step_of : ChartLists → (words : List ℕ) → (r : ℕ) → ℕ
step_of chart words r = slice_index words (step_place (widths_of chart) r)

-- the steps of all regions
abbrev pub steps_of : ChartLists → (words : List ℕ) → List ℕ
steps_of chart words = map (step_of chart words) (range_with_len 0 (region_count chart.cut))

-- what stands of border cell j of region r in the row of step t
abbrev pub border_word : ChartLists → (words : List ℕ) → (r t j : ℕ) → ℕ
border_word chart words r t j = slice_index words (row_place (widths_of chart) r (t % 2) j)

-- the border cell j of region r
abbrev pub border_cell : ChartLists → (r j : ℕ) → ℕ
border_cell chart r j = slice_index (list_at chart.border r) j

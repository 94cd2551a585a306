-- The words of a field that opens.
use Rattle.std.specs.Prelude.{◌≡◌, ◌≢◌, ℕ, ◌+◌, ◌<◌, List, length, slice_index}
use Rattle.flow_model.specs.State.{occupancy}
use Rattle.region_cut.specs.Chart.{ChartLists}
use Rattle.region_cut.specs.Cuttings.{region_count}
use Rattle.region_step.specs.Start.{StartLists}
use Rattle.border_rows.specs.Places.{width_at, widths_of, words_of}
use Rattle.border_rows.specs.Words.{border_cell, border_word, claim_of, step_of}

-- the rows of region r, as far as border cell k: what the cells hold as the region starts, and in the other row what they
-- held a step before
pub record AreFirstRows (chart : ChartLists) (start : StartLists) (words : List ℕ) (r k : ℕ) : Type 0 where
  pub now : (j : ℕ) → j < k → j < width_at (widths_of chart) r → border_word chart words r (slice_index start.steps r) j ≡ occupancy start.rows (border_cell chart r j)
  pub before : (j : ℕ) → j < k → j < width_at (widths_of chart) r → border_word chart words r (slice_index start.steps r + 1) j ≡ slice_index start.earlier (border_cell chart r j)

-- the words of region r: its step is that of the start, and its rows are whole
pub record AreFirstWords (chart : ChartLists) (start : StartLists) (words : List ℕ) (r : ℕ) : Type 0 where
  pub step : step_of chart words r ≡ slice_index start.steps r
  pub rows : AreFirstRows chart start words r (width_at (widths_of chart) r)

-- no words but those of region r have changed, and its claim word has not
pub record OnlyThose (chart : ChartLists) (before after : List ℕ) (r : ℕ) : Type 0 where
  pub long : length after ≡ length before
  pub claims : (q : ℕ) → q < region_count chart.cut → claim_of chart after q ≡ claim_of chart before q
  pub steps : (q : ℕ) → q < region_count chart.cut → q ≢ r → step_of chart after q ≡ step_of chart before q
  pub rows : (q t j : ℕ) → q < region_count chart.cut → q ≢ r → j < width_at (widths_of chart) q → border_word chart after q t j ≡ border_word chart before q t j

-- the words of all regions: no region is taken, and each has its first words
pub record AreAllFirstWords (chart : ChartLists) (start : StartLists) (words : List ℕ) : Type 0 where
  pub long : length words ≡ words_of (widths_of chart)
  pub free : (r : ℕ) → r < region_count chart.cut → claim_of chart words r ≡ 0
  pub each : (r : ℕ) → r < region_count chart.cut → AreFirstWords chart start words r

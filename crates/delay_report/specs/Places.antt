-- The place of each cell among the cells of its region.
use Rattle.std.specs.Prelude.{◌≡◌, ℕ, ◌<◌, List, length, slice_index, slice_index_or}
use Rattle.region_cut.specs.Chart.{ChartLists, list_at}
use Rattle.region_cut.specs.Cuttings.{region_at}
use Rattle.region_step.specs.declared.note.Note.{Note}

-- cell i is there
pub record IsCellPlace (chart : ChartLists) (i place : ℕ) : Type 0 where
  pub inside : place < length (list_at chart.cells (region_at chart.cut i))
  pub cell : slice_index (list_at chart.cells (region_at chart.cut i)) place ≡ i

-- the first cells, so many of them
pub record AreCellPlaces (chart : ChartLists) (cells : ℕ) (places : List ℕ) : Type 0 where
  pub one_each : length places ≡ cells
  pub each : (i : ℕ) → i < cells → IsCellPlace chart i (slice_index places i)

-- the i-th note of a trail
abbrev pub note_at : List Note → (i : ℕ) → Note
note_at trail i = slice_index_or trail i (record { n = 0; gone = 0 })

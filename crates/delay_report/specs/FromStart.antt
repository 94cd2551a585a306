-- What the regions of any start come to: the rows at the last step, the notes, the report with no recorded steps.
use Rattle.std.specs.Prelude.{◌≡◌, ◌≢◌, ℕ, List, ◌++◌, length, map, slice_index}
use Rattle.std.specs.List.{range_with_len}
use Rattle.network_file.specs.Network.{Network}
use Rattle.flow_model.specs.declared.row.Row.{Row}
use Rattle.region_step.specs.Grid.{grid_row}
use Rattle.region_step.specs.Recording.{note_of}
use Rattle.region_step.specs.Setup.{SetupValue}
use Rattle.region_step.specs.Start.{StartLists}
use Rattle.region_step.specs.declared.note.Note.{Note}
use Rattle.delay_report.specs.Report.{cell_lines, report_line, total_line}

-- the rows of all cells at the last step, as the regions of a start come to them
unfoldable pub last_rows : Network → (cut : List ℕ) → StartLists → List Row
last_rows net cut start = map (grid_row net cut start net.steps) (range_with_len 0 (length net.cells))

-- what is noted of cell i at step t, as its region comes to it
abbrev pub grid_note : Network → (cut : List ℕ) → StartLists → (t i : ℕ) → Note
grid_note net cut start t i = note_of (grid_row net cut start t i)

-- where anything is recorded, all regions start at step 0
abbrev pub IsRecordedFromZero : SetupValue → Type 0
IsRecordedFromZero setup = setup.every ≢ 0 → (q : ℕ) → slice_index setup.start.steps q ≡ 0

-- the report of these rows, with no recorded steps
unfoldable pub report_from : Network → (cut : List ℕ) → StartLists → List ℕ
report_from net cut start = report_line net ++ cell_lines net.cells (last_rows net cut start) ++ total_line net (last_rows net cut start)

-- The report of a run, by the rows of all cells at the last step and by what was noted of them at the recorded steps.
use Rattle.std.specs.Prelude.{ℕ, List, ◌++◌, length, codes, flat_map}
use Rattle.network_file.specs.Network.{Network}
use Rattle.network_file.specs.declared.cell.Cell.{Cell}
use Rattle.flow_model.specs.State.{delay_of, row_at, state_at}
use Rattle.flow_model.specs.declared.row.Row.{Row}
use Rattle.flow_ledger.specs.Books.{entered_of, inside_of, left_of}
use Rattle.line_fields.specs.Fields.{amount_field, count_field, lines_of, row_fields}
use Rattle.network_file.specs.Cells.{name_at}
use Rattle.region_step.specs.Recording.{note_of, recorded}
use Rattle.region_step.specs.declared.note.Note.{Note}

-- how many of the steps 0 to T are recorded
abbrev pub recorded_count : (steps every : ℕ) → ℕ
recorded_count steps every = length (recorded steps every 0 steps)

-- `report,T,cells`
unfoldable pub report_line : Network → List ℕ
report_line net = codes "report" ++ count_field net.steps ++ count_field (length net.cells) ++ codes "\n"

-- `at,t,name,n,gone`
unfoldable pub note_line : (t : ℕ) → (name : List ℕ) → Note → List ℕ
note_line t name note = codes "at" ++ count_field t ++ codes "," ++ name ++ amount_field note.n ++ amount_field note.gone ++ codes "\n"

-- `cell,name,n,come,gone,wait`
unfoldable pub cell_line : (name : List ℕ) → Row → List ℕ
cell_line name row = codes "cell," ++ row_fields name row ++ codes "\n"

-- what is inside, what has entered, what has left, and the delay
unfoldable pub totals : Network → List Row → List ℕ
totals net rows = amount_field (inside_of net rows) ++ amount_field (entered_of net rows) ++ amount_field (left_of net rows) ++ amount_field (delay_of rows)

-- `total,inside,entered,left,delay`
unfoldable pub total_line : Network → List Row → List ℕ
total_line net rows = codes "total" ++ totals net rows ++ codes "\n"

-- the lines of one recorded step, by what was noted of each cell
abbrev pub step_lines : List Cell → (note : ℕ → Note) → (t : ℕ) → List ℕ
step_lines cells note t = lines_of (λ i. note_line t (name_at cells i) (note i)) (length cells)

-- the lines of these recorded steps
unfoldable pub note_lines : List Cell → (note : ℕ → ℕ → Note) → (steps : List ℕ) → List ℕ
note_lines cells note steps = flat_map (λ t. step_lines cells (note t) t) steps

-- the lines of the last step
unfoldable pub cell_lines : List Cell → List Row → List ℕ
cell_lines cells rows = lines_of (λ i. cell_line (name_at cells i) (row_at rows i)) (length cells)

-- the report of a network, by what was noted of cell i at step t and by the rows at the last step
unfoldable pub report_with : Network → (every : ℕ) → (note : ℕ → ℕ → Note) → List Row → List ℕ
report_with net every note rows =
    report_line net ++ note_lines net.cells note (recorded net.steps every 0 net.steps) ++ cell_lines net.cells rows ++ total_line net rows

-- the report of the recurrences, speeds included, and of what is noted of them
unfoldable pub report_of : Network → (every : ℕ) → List ℕ
report_of net every = report_with net every (λ t i. note_of (row_at (state_at net t) i)) (state_at net net.steps)

-- What a plan says of a cell: by the cell that is read, and with other records of a cell.
use Rattle.std.specs.Prelude.{All, slice_set}
use Rattle.std.proofs.Common.{◌≡◌, ◌≢◌, ℕ, ◌<◌, ◌≤◌, length, get_or, inl, inr, ap, ◌∙◌}
use Rattle.std.proofs.lemmas.Bool.{cases_lt}
use Rattle.std.proofs.lemmas.List.{get_or_default, get_or-set_same, get_or-set_other, get_or_past}
use Rattle.step_plan.specs.Records.{CellRecords, PlannedCell, PlanRecords, bare, bare_cell, planned_at, records_at, with_records}

-- the cell that is read
pub planned_read : (plan : PlanRecords) (cell : ℕ) (c : PlannedCell) → cell < length plan.cells → c ≡ get_or plan.cells cell c →
    c ≡ planned_at plan cell
planned_read plan cell c has read = read ∙ get_or_default plan.cells cell c (bare_cell 0) has

-- of a cell that is not there the plan says nothing
pub records_at-past : (plan : PlanRecords) (cell : ℕ) → length plan.cells ≤ cell → records_at plan cell ≡ bare
records_at-past plan cell past = ap (λ (c : PlannedCell). c.records) (get_or_past plan.cells cell (bare_cell 0) past)

-- what holds of the records of each cell, and of none, holds at every number
pub records_at-all : (P : CellRecords → Type 0) (plan : PlanRecords) (cell : ℕ) → All (λ planned. P planned.records) plan.cells → P bare →
    P (records_at plan cell)
records_at-all P plan cell each none = elim (cases_lt cell (length plan.cells)) [
  | inl there ↦ each cell (bare_cell 0) there
  | inr past ↦ rw (records_at-past plan cell past) none
]

-- the cell that was read, with its records changed
pub with_records-read : (plan : PlanRecords) (cell : ℕ) (added : CellRecords → CellRecords) (c more : PlannedCell) → cell < length plan.cells →
    c ≡ get_or plan.cells cell c → more ≡ record c { records = added c.records } →
    slice_set plan.cells cell more ≡ (with_records plan cell added).cells
with_records-read plan cell added c more has read changed =
    ap (slice_set plan.cells cell) (changed ∙ ap (λ (p : PlannedCell). record p { records = added p.records }) (planned_read plan cell c has read))

-- the cell whose records are changed, and the others
pub planned_at-with_same : (plan : PlanRecords) (cell : ℕ) (added : CellRecords → CellRecords) → cell < length plan.cells →
    planned_at (with_records plan cell added) cell ≡ record (planned_at plan cell) { records = added (records_at plan cell) }
planned_at-with_same plan cell added has =
    get_or-set_same plan.cells cell (record (planned_at plan cell) { records = added (records_at plan cell) }) (bare_cell 0) has

pub planned_at-with_other : (plan : PlanRecords) (cell k : ℕ) (added : CellRecords → CellRecords) → k ≢ cell →
    planned_at (with_records plan cell added) k ≡ planned_at plan k
planned_at-with_other plan cell k added other =
    get_or-set_other plan.cells cell k (record (planned_at plan cell) { records = added (records_at plan cell) }) (bare_cell 0) other

-- What a plan says: the records of the file that speak of single steps, cell by cell.
use Rattle.std.specs.Prelude.{ℕ, Bool, ◌&&◌, nat_le, nat_lt, List, [], ◌∷◌, ◌++◌, Option, None, slice_index_or, slice_set}

-- whether `t` is in `[from, to)`
abbrev pub in_range : (from to t : ℕ) → Bool
in_range from to t = nat_le from t && nat_lt t to

-- a cell sends only while its place in the cycle, `(t + offset) mod cycle`, is in `[from, to)`
pub record SignalRecord : Type 0 where
  pub cycle : ℕ
  pub offset : ℕ
  pub from : ℕ
  pub to : ℕ

-- in each step of `[from, to)` a cell has this capacity, in parts
pub record LimitRecord : Type 0 where
  pub from : ℕ
  pub to : ℕ
  pub capacity : ℕ

-- in each step of `[from, to)` the amount, in parts, enters a gate
pub record DemandRecord : Type 0 where
  pub from : ℕ
  pub to : ℕ
  pub amount : ℕ

-- in each step of `[from, to)` the diverge out of a cell has these turning shares
pub record TurnRecord : Type 0 where
  pub from : ℕ
  pub to : ℕ
  pub b1 : ℕ
  pub b2 : ℕ

-- in each step of `[from, to)` the free-flow speed in a cell is num/den of the road's
pub record SpeedRecord : Type 0 where
  pub from : ℕ
  pub to : ℕ
  pub num : ℕ
  pub den : ℕ

-- the records of a cell: its signal, and its limit, demand, turn and speed records in the order in which they were put
pub record CellRecords : Type 0 where
  pub signal : Option SignalRecord
  pub limits : List LimitRecord
  pub demands : List DemandRecord
  pub turns : List TurnRecord
  pub speeds : List SpeedRecord

-- the capacity Q of a cell, and its records
pub record PlannedCell : Type 0 where
  pub capacity : ℕ
  pub records : CellRecords

-- what a plan says of each cell
pub record PlanRecords : Type 0 where
  pub cells : List PlannedCell

-- no records
abbrev pub bare : CellRecords
bare = record { signal = None; limits = []; demands = []; turns = []; speeds = [] }

-- a cell without records
abbrev pub bare_cell : (capacity : ℕ) → PlannedCell
bare_cell capacity = record { capacity = capacity; records = bare }

-- what the plan says of the cell; a cell that isn't there has capacity 0 and no records
abbrev pub planned_at : PlanRecords → (cell : ℕ) → PlannedCell
planned_at plan cell = slice_index_or plan.cells cell (bare_cell 0)

abbrev pub records_at : PlanRecords → (cell : ℕ) → CellRecords
records_at plan cell = (planned_at plan cell).records

-- one more cell, of this capacity
abbrev pub with_cell : PlanRecords → ℕ → PlanRecords
with_cell plan capacity = record { cells = plan.cells ++ bare_cell capacity ∷ [] }

-- the plan with the records of the cell changed so
abbrev pub with_records : PlanRecords → (cell : ℕ) → (changed : CellRecords → CellRecords) → PlanRecords
with_records plan cell changed =
    record { cells = slice_set plan.cells cell (record (planned_at plan cell) { records = changed (records_at plan cell) }) }

-- The most that a cell sends or receives from step to step.
use Rattle.std.specs.Prelude.{ℕ, Bool, true, Option, if◌then◌else◌}
use Rattle.step_plan.specs.Capacity.{capacity_at}
use Rattle.step_plan.specs.Green.{green_at, is_green_by}
use Rattle.step_plan.specs.Records.{PlanRecords, SignalRecord}
use Rattle.timelines.specs.Timelines.{TimelineValue, value_at}

-- what it depends on; a cell that receives has no signal
pub record CellValues : Type 0 where
  pub capacity : TimelineValue ℕ
  pub signal : Option SignalRecord

-- the most that the cell sends or receives in step t
unfoldable pub cell_most : CellValues → (t : ℕ) → ℕ
cell_most cell t = if is_green_by cell.signal t then value_at cell.capacity t else 0

-- the light of a cell that sends; one that receives is never held back
abbrev pub green_by : PlanRecords → (cell : ℕ) → (sends : Bool) → (t : ℕ) → Bool
green_by plan cell sends t = if sends then green_at plan cell t else true

-- the most that the cell sends or receives by the plan
unfoldable pub most_by : PlanRecords → (cell : ℕ) → (sends : Bool) → (t : ℕ) → ℕ
most_by plan cell sends t = if green_by plan cell sends t then capacity_at plan cell t else 0

-- The most of a cell, by what it is made of.
use Rattle.std.specs.Prelude.{Bool, Option, Some, None, is_some, if◌then◌else◌}
use Rattle.std.proofs.Common.{◌≡◌, ℕ, false, refl}
use Rattle.step_plan.specs.Capacity.{capacity_at}
use Rattle.step_plan.specs.Green.{is_green_by}
use Rattle.step_plan.specs.Records.{PlanRecords, SignalRecord}
use Rattle.timelines.specs.Timelines.{value_at}
use Rattle.timelines.specs.Cells.{CellValues, cell_most, green_by, most_by}

pub most-is : (cell : CellValues) (t most : ℕ) (green : Bool) → most ≡ value_at cell.capacity t → green ≡ is_green_by cell.signal t →
    (if green then most else 0) ≡ cell_most cell t
unfolding cell_most
most-is cell t most green most_is green_is = rw (most_is, green_is) refl

pub most-same : (cell : CellValues) (s t : ℕ) → value_at cell.capacity s ≡ value_at cell.capacity t →
    is_green_by cell.signal s ≡ is_green_by cell.signal t → cell_most cell s ≡ cell_most cell t
unfolding cell_most
most-same cell s t most green = rw (most, green) refl

pub most-by : (cell : CellValues) (plan : PlanRecords) (i t : ℕ) (sends : Bool) → value_at cell.capacity t ≡ capacity_at plan i t →
    is_green_by cell.signal t ≡ green_by plan i sends t → cell_most cell t ≡ most_by plan i sends t
unfolding cell_most most_by
most-by cell plan i t sends most green = rw (most, green) refl

-- it does not depend on the step to which the cell was followed
pub most-moved : (cell : CellValues) (s t : ℕ) → cell_most (record cell { capacity = record cell.capacity { step = t } }) s ≡ cell_most cell s
unfolding cell_most
most-moved cell s t = refl

-- without a signal the light is green in each step
pub light-none : (signal : Option SignalRecord) (s t : ℕ) → is_some signal ≡ false → is_green_by signal s ≡ is_green_by signal t
light-none None s t none = refl
light-none (Some signal) s t none = cc

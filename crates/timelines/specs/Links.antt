-- The most that a link carries from step to step, whatever its cells hold.
use Rattle.std.specs.Prelude.{ℕ, true, false, min}
use Rattle.step_plan.specs.Records.{PlanRecords}
use Rattle.timelines.specs.Cells.{CellValues, cell_most, most_by}

-- its cells, and the step to which they were followed
pub record LinkValues : Type 0 where
  pub up : CellValues
  pub down : CellValues
  pub step : ℕ

-- the lesser of the most that the cell upstream sends and of the most that the one downstream receives
unfoldable pub most_at : LinkValues → (t : ℕ) → ℕ
most_at link t = min (cell_most link.up t) (cell_most link.down t)

-- the same by the plan, of the link from one cell to another
unfoldable pub most_between : PlanRecords → (up down t : ℕ) → ℕ
most_between plan up down t = min (most_by plan up true t) (most_by plan down false t)

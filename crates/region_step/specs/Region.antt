-- A region as contracts see it.
use Rattle.std.specs.Prelude.{ℕ, List, Option}
use Rattle.flow_model.specs.declared.row.Row.{Row}
use Rattle.region_step.specs.declared.note.Note.{Note}
use Rattle.region_step.specs.Ordered.{OrderedCells}

-- how far a region has come
pub record RegionState : Type 0 where
  pub number : ℕ
  -- the step at which it was opened
  pub started : ℕ
  -- every how many steps it is recorded, 0 for never
  pub every : ℕ
  pub step : ℕ
  -- a row for each of its cells, in their order
  pub rows : List Row
  -- what each of them held a step before
  pub before : List ℕ
  -- a note for each of them at each recorded step, from the first step on
  pub trail : List Note
  -- for each place of its halo what was put there for the step to come
  pub put : List (Option ℕ)

-- what a region keeps beside its state
pub record Body : Type 0 where
  -- its cells as they are placed
  pub ordered : OrderedCells
  -- the place of each border cell among its cells
  pub border : List ℕ
  -- for how many notes there is room
  pub room : ℕ

pub record RegionValue : Type 0 where
  pub state : RegionState
  pub body : Body

-- A cell as a plan of its own.
use Rattle.std.specs.Prelude.{[], ◌∷◌}
use Rattle.step_plan.specs.Records.{PlannedCell, PlanRecords}

-- the plan whose one cell this is
abbrev pub alone : PlannedCell → PlanRecords
alone cell = record { cells = cell ∷ [] }

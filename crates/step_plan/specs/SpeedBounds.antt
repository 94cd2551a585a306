-- What is known of the speeds of a cell.
use Rattle.std.specs.Prelude.{ℕ, ◌≤◌, Bool, not, ◌==◌, length}
use Rattle.fixed_flow.specs.Limits.{most_ratio}
use Rattle.step_plan.specs.Records.{PlanRecords, records_at}

-- a ratio of at most 1, with numbers up to 1,000
pub record IsSpeed (speed : ℕ × ℕ) : Type 0 where
  pub positive : 1 ≤ speed.0
  pub ratio : speed.0 ≤ speed.1
  pub small : speed.1 ≤ most_ratio

-- whether the cell has a speed record
unfoldable pub has_speeds : PlanRecords → (cell : ℕ) → Bool
has_speeds plan cell = not (length (records_at plan cell).speeds == 0)

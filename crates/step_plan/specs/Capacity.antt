use Rattle.std.specs.Prelude.{ℕ}
use Rattle.step_plan.specs.Last.{last_said}
use Rattle.step_plan.specs.Records.{PlanRecords, in_range, planned_at, records_at}

-- q(i,t): the capacity by the last limit record of the cell whose range contains `t`, and else the cell's own
unfoldable pub capacity_at : PlanRecords → (cell t : ℕ) → ℕ
capacity_at plan cell t =
    last_said (λ limit. in_range limit.from limit.to t) (λ limit. limit.capacity) (records_at plan cell).limits (planned_at plan cell).capacity

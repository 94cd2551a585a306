use Rattle.std.specs.Prelude.{ℕ, if◌then◌else◌, sum_by}
use Rattle.step_plan.specs.Records.{PlanRecords, in_range, records_at}

-- demand(i,t): what enters the gate at step `t`, by all its records whose range contains `t`
unfoldable pub demand_at : PlanRecords → (cell t : ℕ) → ℕ
demand_at plan cell t =
    sum_by (λ demand. if in_range demand.from demand.to t then demand.amount else 0) (records_at plan cell).demands

use Rattle.std.specs.Prelude.{ℕ, ◌-◌, length, sum_by}
use Rattle.std.specs.List.{range_with_len}
use Rattle.step_plan.specs.Records.{PlanRecords}
use Rattle.step_plan.specs.Demand.{demand_at}

-- what enters the gate in the steps of `[t, end)`
unfoldable pub demand_from : PlanRecords → (cell t end : ℕ) → ℕ
demand_from plan cell t end = sum_by (demand_at plan cell) (range_with_len t (end - t))

-- what enters all cells in the steps below `steps`
unfoldable pub total_demand : PlanRecords → (steps : ℕ) → ℕ
total_demand plan steps = sum_by (λ cell. demand_from plan cell 0 steps) (range_with_len 0 (length plan.cells))

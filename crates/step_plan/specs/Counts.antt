use Rattle.std.specs.Prelude.{count_by, is_some, length, sum_by}
use Rattle.step_plan.specs.Records.{PlanRecords}
use Rattle.step_plan.specs.declared.plan_counts.PlanCounts.{PlanCounts}

-- how many records of each kind the plan has, counted cell by cell
abbrev pub counts_of : PlanRecords → PlanCounts
counts_of plan = record {
  signals = count_by (λ cell. is_some cell.records.signal) plan.cells;
  limits = sum_by (λ cell. length cell.records.limits) plan.cells;
  demands = sum_by (λ cell. length cell.records.demands) plan.cells;
  turns = sum_by (λ cell. length cell.records.turns) plan.cells;
  speeds = sum_by (λ cell. length cell.records.speeds) plan.cells;
}

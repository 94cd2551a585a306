-- What the records of a cell bring in a range of steps, and the sum over all cells.
use Rattle.std.specs.Prelude.{if◌then◌else◌, sum_by, min, max}
use Rattle.std.specs.List.{range_with_len}
use Rattle.std.proofs.Common.{◌≡◌, ℕ, ◌+◌, ◌-◌, ◌*◌, List, arith, sym, ◌∙◌, ap}
use Rattle.step_plan.specs.Records.{DemandRecord, PlannedCell, PlanRecords, bare_cell, in_range}
use Rattle.step_plan.specs.Alone.{alone}
use Rattle.step_plan.specs.Demand.{demand_at}
use Rattle.step_plan.specs.Total.{demand_from, total_demand}
use Rattle.step_plan.proofs.Sums.{sum_by_agree, sum_by_places, sum_by-swap}
use Rattle.step_plan.proofs.Overlap.{steps_in}

-- what one record brings to its cell in the steps of `[t, end)`
abbrev pub brought : (t end : ℕ) → DemandRecord → ℕ
brought t end d = d.amount * (min d.to end - max d.from t)

-- what it brings in a step
abbrev pub brings : DemandRecord → (t : ℕ) → ℕ
brings d t = if in_range d.from d.to t then d.amount else 0

-- step by step
brings_within : (t end : ℕ) (d : DemandRecord) → sum_by (brings d) (range_with_len t (end - t)) ≡ brought t end d
brings_within t end d =
    let overlap : min d.to (t + (end - t)) - max d.from t ≡ min d.to end - max d.from t = omega arith in
    steps_in d.from d.to d.amount t (end - t) ∙ ap (λ k. d.amount * k) overlap

-- summed over the records of the cell
pub demand_from_sum : (cell : PlannedCell) (t end : ℕ) → demand_from (alone cell) 0 t end ≡ sum_by (brought t end) cell.records.demands
unfolding demand_from demand_at
demand_from_sum cell t end =
    let steps : List ℕ = range_with_len t (end - t) in
    sum_by-swap (λ u d. brings d u) steps cell.records.demands ∙
    sum_by_agree (λ d. sum_by (brings d) steps) (brought t end) cell.records.demands (brings_within t end)

-- what enters a cell in the steps below `steps`
abbrev pub brought_to : (steps : ℕ) → PlannedCell → ℕ
brought_to steps cell = demand_from (alone cell) 0 0 steps

-- the sum over all cells, cell by cell
pub total_demand_is : (plan : PlanRecords) (steps : ℕ) → total_demand plan steps ≡ sum_by (brought_to steps) plan.cells
unfolding total_demand demand_from demand_at
total_demand_is plan steps = sym (sum_by_places (brought_to steps) plan.cells (bare_cell 0))

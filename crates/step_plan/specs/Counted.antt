-- The counts of a plan with one record more.
use Rattle.std.specs.Prelude.{◌+◌}
use Rattle.step_plan.specs.declared.cell_record.CellRecord.{CellRecord}
use Rattle.step_plan.specs.declared.cell_record.CellRecord.TheVariants.{Signal, Limit, Demand, Turn, Speed}
use Rattle.step_plan.specs.declared.plan_counts.PlanCounts.{PlanCounts}

-- with one record more
abbrev pub with_one : PlanCounts → CellRecord → PlanCounts
with_one counts (Signal signal) = record counts { signals = counts.signals + 1 }
with_one counts (Limit limit) = record counts { limits = counts.limits + 1 }
with_one counts (Demand demand) = record counts { demands = counts.demands + 1 }
with_one counts (Turn turn) = record counts { turns = counts.turns + 1 }
with_one counts (Speed speed) = record counts { speeds = counts.speeds + 1 }

-- One more record.
use Rattle.std.specs.Prelude.{ℕ, [], ◌∷◌, ◌++◌, Some}
use Rattle.step_plan.specs.Records.{CellRecords, PlanRecords, with_records}
use Rattle.step_plan.specs.declared.cell_record.CellRecord.{CellRecord}
use Rattle.step_plan.specs.declared.cell_record.CellRecord.TheVariants.{Signal, Limit, Demand, Turn, Speed}

-- the records of a cell with one more: a signal in place of any that the cell had, another behind those of its kind
abbrev pub with_own : CellRecords → CellRecord → CellRecords
with_own own (Signal signal) = record own { signal = Some signal }
with_own own (Limit limit) = record own { limits = own.limits ++ limit ∷ [] }
with_own own (Demand demand) = record own { demands = own.demands ++ demand ∷ [] }
with_own own (Turn turn) = record own { turns = own.turns ++ turn ∷ [] }
with_own own (Speed speed) = record own { speeds = own.speeds ++ speed ∷ [] }

-- the plan with one more record of the cell
abbrev pub with_record : PlanRecords → (cell : ℕ) → CellRecord → PlanRecords
with_record plan cell one = with_records plan cell (λ own. with_own own one)

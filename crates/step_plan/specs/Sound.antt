use Rattle.std.specs.Prelude.{◌≡◌, ℕ, ◌<◌, ◌≤◌, false, is_some, length, All, IfSome, ⊤}
use Rattle.fixed_flow.specs.Limits.{most_parts, most_ratio}
use Rattle.step_plan.specs.Counts.{counts_of}
use Rattle.step_plan.specs.Green.{signal_of}
use Rattle.step_plan.specs.Limits.{most_steps}
use Rattle.step_plan.specs.Records.{CellRecords, DemandRecord, LimitRecord, PlanRecords, SignalRecord, SpeedRecord, TurnRecord}
use Rattle.step_plan.specs.SpeedBounds.{IsSpeed}
use Rattle.step_plan.specs.declared.cell_record.CellRecord.{CellRecord}
use Rattle.step_plan.specs.declared.cell_record.CellRecord.TheVariants.{Signal, Limit, Demand, Turn, Speed}
use Rattle.step_plan.specs.declared.plan_counts.PlanCounts.{PlanCounts}

-- the most cells of a plan, so that each has a number of 32 bits
abbrev pub most_cells : ℕ
most_cells = 4_294_967_295

-- the most demand records of a plan
abbrev pub most_demands : ℕ
most_demands = 200_000

-- the offset and the green range lie in the cycle
pub record IsSoundSignal (signal : SignalRecord) : Type 0 where
  pub cycle : signal.cycle ≤ most_steps
  pub offset : signal.offset < signal.cycle
  pub steps : signal.from < signal.to
  pub within : signal.to ≤ signal.cycle

-- the record has a step, and its amount is within bounds
pub record IsSoundDemand (demand : DemandRecord) : Type 0 where
  pub steps : demand.from < demand.to
  pub amount : demand.amount ≤ most_parts

-- the record has a step, and its shares are within bounds
pub record IsSoundTurn (turn : TurnRecord) : Type 0 where
  pub steps : turn.from < turn.to
  pub some_first : 1 ≤ turn.b1
  pub some_second : 1 ≤ turn.b2
  pub first : turn.b1 ≤ most_ratio
  pub second : turn.b2 ≤ most_ratio

-- the record has a step, and its speed is at most the road's
pub record IsSoundSpeed (speed : SpeedRecord) : Type 0 where
  pub steps : speed.from < speed.to
  pub bounds : IsSpeed (speed.num, speed.den)

-- the limit record has a step
abbrev pub IsSoundLimit : LimitRecord → Type 0
IsSoundLimit limit = limit.from < limit.to

-- a sound record of its kind
abbrev pub IsSoundRecord : CellRecord → Type 0
IsSoundRecord (Signal signal) = IsSoundSignal signal
IsSoundRecord (Limit limit) = IsSoundLimit limit
IsSoundRecord (Demand demand) = IsSoundDemand demand
IsSoundRecord (Turn turn) = IsSoundTurn turn
IsSoundRecord (Speed speed) = IsSoundSpeed speed

-- the records of a cell are sound
pub record AreSound (own : CellRecords) : Type 0 where
  pub signal : IfSome own.signal IsSoundSignal
  pub limits : All IsSoundLimit own.limits
  pub demands : All IsSoundDemand own.demands
  pub turns : All IsSoundTurn own.turns
  pub speeds : All IsSoundSpeed own.speeds

-- what holds of every plan
pub record IsSoundPlan (plan : PlanRecords) : Type 0 where
  pub few_cells : length plan.cells ≤ most_cells
  pub few_demands : (counts_of plan).demands ≤ most_demands
  pub records : All (λ planned. AreSound planned.records) plan.cells

-- the plan has room for the record: a cell has one signal, and the demand records are bounded
abbrev pub HasRoom : PlanRecords → (cell : ℕ) → CellRecord → Type 0
HasRoom plan cell (Signal signal) = is_some (signal_of plan cell) ≡ false
HasRoom plan cell (Limit limit) = ⊤
HasRoom plan cell (Demand demand) = (counts_of plan).demands < most_demands
HasRoom plan cell (Turn turn) = ⊤
HasRoom plan cell (Speed speed) = ⊤

-- a plan with its counts
pub record IsCounted (plan : PlanRecords) (kept : PlanCounts) : Type 0 where
  pub sound : IsSoundPlan plan
  pub counts : kept ≡ counts_of plan

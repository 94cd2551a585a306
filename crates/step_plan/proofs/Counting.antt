-- The counts of a plan with one more cell or record.
use Rattle.std.specs.Prelude.{is_some, if◌then◌else◌, slice_set, sum_by}
use Rattle.std.proofs.Common.{◌≡◌, ℕ, ◌+◌, ◌<◌, length, arith, add-zero, refl}
use Rattle.std.proofs.lemmas.List.{length_push}
use Rattle.std.proofs.lemmas.List.Sums.{sum_by-set, sum_by_push}
use Rattle.step_plan.specs.Adding.{with_own, with_record}
use Rattle.step_plan.specs.Counts.{counts_of}
use Rattle.step_plan.specs.Counted.{with_one}
use Rattle.step_plan.specs.Green.{signal_of}
use Rattle.step_plan.specs.Records.{CellRecords, PlannedCell, PlanRecords, bare_cell, planned_at, records_at, with_cell, with_records}
use Rattle.step_plan.specs.Sound.{HasRoom}
use Rattle.step_plan.specs.declared.cell_record.CellRecord.{CellRecord}
use Rattle.step_plan.specs.declared.cell_record.CellRecord.TheVariants.{Signal, Limit, Demand, Turn, Speed}

-- a sum over the cells grows as the term of the cell that changes
sum_by-with_records : (f : PlannedCell → ℕ) (plan : PlanRecords) (cell : ℕ) (own : CellRecords) (more : ℕ) → cell < length plan.cells →
    f (record (planned_at plan cell) { records = own }) ≡ f (planned_at plan cell) + more →
    sum_by f (slice_set plan.cells cell (record (planned_at plan cell) { records = own })) ≡ sum_by f plan.cells + more
sum_by-with_records f plan cell own more has grown =
    omega (arith, sum_by-set f plan.cells cell (record (planned_at plan cell) { records = own }) (bare_cell 0) has, grown)

-- how many signals a cell has
abbrev own_signals : CellRecords → ℕ
own_signals own = if is_some own.signal then 1 else 0

abbrev signals_of : PlannedCell → ℕ
signals_of cell = own_signals cell.records

abbrev limits_of : PlannedCell → ℕ
limits_of cell = length cell.records.limits

abbrev demands_of : PlannedCell → ℕ
demands_of cell = length cell.records.demands

abbrev turns_of : PlannedCell → ℕ
turns_of cell = length cell.records.turns

abbrev speeds_of : PlannedCell → ℕ
speeds_of cell = length cell.records.speeds

-- with other records of a cell, of which there are so many more
counts_of-with_records : (plan : PlanRecords) (cell : ℕ) (added : CellRecords → CellRecords) (signals limits demands turns speeds : ℕ) →
    cell < length plan.cells → own_signals (added (records_at plan cell)) ≡ own_signals (records_at plan cell) + signals →
    length (added (records_at plan cell)).limits ≡ length (records_at plan cell).limits + limits →
    length (added (records_at plan cell)).demands ≡ length (records_at plan cell).demands + demands →
    length (added (records_at plan cell)).turns ≡ length (records_at plan cell).turns + turns →
    length (added (records_at plan cell)).speeds ≡ length (records_at plan cell).speeds + speeds →
    counts_of (with_records plan cell added) ≡ record {
      signals = (counts_of plan).signals + signals;
      limits = (counts_of plan).limits + limits;
      demands = (counts_of plan).demands + demands;
      turns = (counts_of plan).turns + turns;
      speeds = (counts_of plan).speeds + speeds;
    }
counts_of-with_records plan cell added signals limits demands turns speeds has more_signals more_limits more_demands more_turns more_speeds =
    let own = added (records_at plan cell) in
    rw (
      sum_by-with_records signals_of plan cell own signals has more_signals,
      sum_by-with_records limits_of plan cell own limits has more_limits,
      sum_by-with_records demands_of plan cell own demands has more_demands,
      sum_by-with_records turns_of plan cell own turns has more_turns,
      sum_by-with_records speeds_of plan cell own speeds has more_speeds,
    )

-- one more record
pub counts_of-with_record : (plan : PlanRecords) (cell : ℕ) (one : CellRecord) → cell < length plan.cells → HasRoom plan cell one →
    counts_of (with_record plan cell one) ≡ with_one (counts_of plan) one
unfolding signal_of
counts_of-with_record plan cell (Signal signal) has none =
    let own = records_at plan cell in
    let before : own_signals own ≡ 0 = rw none refl in
    rw (counts_of-with_records plan cell (λ own. with_own own (Signal signal)) 1 0 0 0 0 has (omega (arith, before)) (omega arith) (omega arith) (omega arith) (omega arith))
    (simp add-zero)
counts_of-with_record plan cell (Limit limit) has room =
    let own = records_at plan cell in
    rw (counts_of-with_records plan cell (λ own. with_own own (Limit limit)) 0 1 0 0 0 has (omega arith) (length_push own.limits limit) (omega arith) (omega arith) (omega arith))
    (simp add-zero)
counts_of-with_record plan cell (Demand demand) has room =
    let own = records_at plan cell in
    rw (counts_of-with_records plan cell (λ own. with_own own (Demand demand)) 0 0 1 0 0 has (omega arith) (omega arith) (length_push own.demands demand) (omega arith) (omega arith))
    (simp add-zero)
counts_of-with_record plan cell (Turn turn) has room =
    let own = records_at plan cell in
    rw (counts_of-with_records plan cell (λ own. with_own own (Turn turn)) 0 0 0 1 0 has (omega arith) (omega arith) (omega arith) (length_push own.turns turn) (omega arith))
    (simp add-zero)
counts_of-with_record plan cell (Speed speed) has room =
    let own = records_at plan cell in
    rw (counts_of-with_records plan cell (λ own. with_own own (Speed speed)) 0 0 0 0 1 has (omega arith) (omega arith) (omega arith) (omega arith) (length_push own.speeds speed))
    (simp add-zero)

-- a cell that comes brings none
pub counts_of-with_cell : (plan : PlanRecords) (capacity : ℕ) → counts_of (with_cell plan capacity) ≡ counts_of plan
counts_of-with_cell plan capacity =
    rw (
      sum_by_push signals_of plan.cells (bare_cell capacity),
      sum_by_push limits_of plan.cells (bare_cell capacity),
      sum_by_push demands_of plan.cells (bare_cell capacity),
      sum_by_push turns_of plan.cells (bare_cell capacity),
      sum_by_push speeds_of plan.cells (bare_cell capacity),
    ) (simp add-zero)

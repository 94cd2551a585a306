-- What the cell that is read answers, as a plan of its own, is what the plan says.
use Rattle.std.specs.Prelude.{◌==◌, not}
use Rattle.std.proofs.Common.{◌≡◌, ℕ, ◌<◌, length, get_or, ap}
use Rattle.step_plan.specs.Alone.{alone}
use Rattle.step_plan.specs.Capacity.{capacity_at}
use Rattle.step_plan.specs.Demand.{demand_at}
use Rattle.step_plan.specs.Green.{green_at, is_green_by, signal_of}
use Rattle.step_plan.specs.Records.{PlannedCell, PlanRecords}
use Rattle.step_plan.specs.Speeds.{speed_at}
use Rattle.step_plan.specs.SpeedBounds.{has_speeds}
use Rattle.step_plan.specs.Total.{demand_from}
use Rattle.step_plan.specs.Turning.{shares_at}
use Rattle.step_plan.proofs.Planned.{planned_read}

pub capacity_read : (plan : PlanRecords) (cell t : ℕ) (c : PlannedCell) → cell < length plan.cells → c ≡ get_or plan.cells cell c →
    capacity_at (alone c) 0 t ≡ capacity_at plan cell t
unfolding capacity_at
capacity_read plan cell t c has read = ap (λ (p : PlannedCell). capacity_at (alone p) 0 t) (planned_read plan cell c has read)

pub signal_read : (plan : PlanRecords) (cell : ℕ) (c : PlannedCell) → cell < length plan.cells → c ≡ get_or plan.cells cell c →
    c.records.signal ≡ signal_of plan cell
unfolding signal_of
signal_read plan cell c has read = ap (λ (p : PlannedCell). p.records.signal) (planned_read plan cell c has read)

pub green_read : (plan : PlanRecords) (cell t : ℕ) (c : PlannedCell) → cell < length plan.cells → c ≡ get_or plan.cells cell c →
    is_green_by c.records.signal t ≡ green_at plan cell t
unfolding green_at signal_of
green_read plan cell t c has read = ap (λ (p : PlannedCell). is_green_by p.records.signal t) (planned_read plan cell c has read)

pub demand_read : (plan : PlanRecords) (cell t : ℕ) (c : PlannedCell) → cell < length plan.cells → c ≡ get_or plan.cells cell c →
    demand_at (alone c) 0 t ≡ demand_at plan cell t
unfolding demand_at
demand_read plan cell t c has read = ap (λ (p : PlannedCell). demand_at (alone p) 0 t) (planned_read plan cell c has read)

pub demand_from_read : (plan : PlanRecords) (cell t end : ℕ) (c : PlannedCell) → cell < length plan.cells → c ≡ get_or plan.cells cell c →
    demand_from (alone c) 0 t end ≡ demand_from plan cell t end
unfolding demand_from demand_at
demand_from_read plan cell t end c has read = ap (λ (p : PlannedCell). demand_from (alone p) 0 t end) (planned_read plan cell c has read)

pub shares_read : (plan : PlanRecords) (cell t : ℕ) (own : ℕ × ℕ) (c : PlannedCell) → cell < length plan.cells → c ≡ get_or plan.cells cell c →
    shares_at (alone c) 0 t own ≡ shares_at plan cell t own
unfolding shares_at
shares_read plan cell t own c has read = ap (λ (p : PlannedCell). shares_at (alone p) 0 t own) (planned_read plan cell c has read)

pub speed_read : (plan : PlanRecords) (cell t : ℕ) (c : PlannedCell) → cell < length plan.cells → c ≡ get_or plan.cells cell c →
    speed_at (alone c) 0 t ≡ speed_at plan cell t
unfolding speed_at
speed_read plan cell t c has read = ap (λ (p : PlannedCell). speed_at (alone p) 0 t) (planned_read plan cell c has read)

pub has_speeds_read : (plan : PlanRecords) (cell : ℕ) (c : PlannedCell) → cell < length plan.cells → c ≡ get_or plan.cells cell c →
    not (length c.records.speeds == 0) ≡ has_speeds plan cell
unfolding has_speeds
has_speeds_read plan cell c has read = ap (λ (p : PlannedCell). not (length p.records.speeds == 0)) (planned_read plan cell c has read)

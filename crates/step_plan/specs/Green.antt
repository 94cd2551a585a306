use Rattle.std.specs.Prelude.{ℕ, Bool, true, ◌+◌, ◌%◌, Option}
use Rattle.std.specs.Option.{option_map_or}
use Rattle.step_plan.specs.Records.{PlanRecords, SignalRecord, in_range, records_at}

-- the signal of the cell, where it has one
unfoldable pub signal_of : PlanRecords → (cell : ℕ) → Option SignalRecord
signal_of plan cell = (records_at plan cell).signal

-- the place of `t` in the signal's cycle is in its green range; without a signal it is always green
abbrev pub is_green_by : Option SignalRecord → (t : ℕ) → Bool
is_green_by signal t = option_map_or (λ one. in_range one.from one.to ((t + one.offset) % one.cycle)) signal true

-- green(i,t): the signal of the cell shows green; a cell without a signal is always green
unfoldable pub green_at : PlanRecords → (cell t : ℕ) → Bool
green_at plan cell t = is_green_by (signal_of plan cell) t

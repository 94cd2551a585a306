use Rattle.std.specs.Prelude.{ℕ, ◌*◌, ◌/◌}
use Rattle.step_plan.specs.Last.{last_said}
use Rattle.step_plan.specs.Records.{PlanRecords, in_range, records_at}

-- the free-flow speed in the cell as a ratio to the road's: that of the cell's last speed record whose range contains `t`,
-- and else 1/1
unfoldable pub speed_at : PlanRecords → (cell t : ℕ) → ℕ × ℕ
speed_at plan cell t =
    last_said (λ speed. in_range speed.from speed.to t) (λ speed. (speed.num, speed.den)) (records_at plan cell).speeds (1, 1)

-- of n parts those that reach the end of a cell in a step at this speed, which is at most the road's
abbrev pub arriving : (speed : ℕ × ℕ) → (n : ℕ) → ℕ
arriving speed n = n * speed.0 / speed.1

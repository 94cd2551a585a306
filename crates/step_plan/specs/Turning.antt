use Rattle.std.specs.Prelude.{ℕ}
use Rattle.step_plan.specs.Last.{last_said}
use Rattle.step_plan.specs.Records.{PlanRecords, in_range, records_at}

-- the turning shares of the diverge out of the cell: those of the cell's last turn record whose range contains `t`,
-- and else those of the diverge itself
unfoldable pub shares_at : PlanRecords → (cell t : ℕ) → (own : ℕ × ℕ) → ℕ × ℕ
shares_at plan cell t own =
    last_said (λ turn. in_range turn.from turn.to t) (λ turn. (turn.b1, turn.b2)) (records_at plan cell).turns own

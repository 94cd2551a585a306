-- How many whole parts may go.
use Rattle.std.specs.Prelude.{ℕ, ◌+◌, ◌*◌, ◌≤◌}

-- the sender has k parts of both turning shares, and each branch has room for k of its own
pub record IsAllowed (s r1 r2 b1 b2 k : ℕ) : Type 0 where
  pub sent : k * (b1 + b2) ≤ s
  pub first : k * b1 ≤ r1
  pub second : k * b2 ≤ r2

-- Two networks at one step.
use Rattle.std.specs.Prelude.{◌≡◌, ℕ, ◌≤◌, List}
use Rattle.network_file.specs.Network.{Network}
use Rattle.flow_model.specs.State.{state_at}
use Rattle.flow_model.specs.declared.row.Row.{Row}

-- these are the rows of both at one step
pub record StandAtOneStep (one two : Network) (first second : List Row) : Type 0 where
  pub t : ℕ
  pub in_time : t ≤ one.steps
  pub first_rows : first ≡ state_at one t
  pub second_rows : second ≡ state_at two t

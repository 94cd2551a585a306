-- Rows of cells that stand at different steps.
use Rattle.std.specs.Prelude.{◌≡◌, ℕ, ◌<◌, ◌≤◌, List, length}
use Rattle.network_file.specs.Network.{Network}
use Rattle.flow_model.specs.State.{row_at, state_at}
use Rattle.flow_model.specs.declared.row.Row.{Row}

-- the row of each cell i is that of State at the cell's own step, s i
pub record StandAt (net : Network) (s : ℕ → ℕ) (rows : List Row) : Type 0 where
  pub in_time : (i : ℕ) → i < length net.cells → s i ≤ net.steps
  pub each : (i : ℕ) → i < length net.cells → row_at rows i ≡ row_at (state_at net (s i)) i

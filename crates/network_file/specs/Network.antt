-- A network as contracts see it.
use Rattle.std.specs.Prelude.{ℕ, ◌+◌, List, sum_by}
use Rattle.step_plan.specs.Records.{PlanRecords}
use Rattle.step_plan.specs.Total.{total_demand}
use Rattle.network_file.specs.declared.cell.Cell.{Cell}
use Rattle.network_file.specs.declared.connector.Connector.{Connector}

pub record Network : Type 0 where
  -- 1 to 3
  pub format : ℕ
  -- T, the number of steps
  pub steps : ℕ
  pub cells : List Cell
  pub connectors : List Connector
  -- each cell's capacity, signal, limits, demands, turns and speeds
  pub plan : PlanRecords
  -- the number of each cell's region, where the file gives them, and else nothing
  pub regions : List ℕ

-- all that is ever in the network: the first occupancies, and the demand of so many steps
abbrev pub load_of : List Cell → PlanRecords → (steps : ℕ) → ℕ
load_of cells plan steps = sum_by (λ cell. cell.first) cells + total_demand plan steps

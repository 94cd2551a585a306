-- The rows while a step is under way, for the loop of `plain_step` alone: each cell has taken its demand, and then one
-- connector after the other takes what leaves its cells upstream and brings it to its cells downstream.
use Rattle.std.specs.Prelude.{ℕ, ◌+◌, ◌-◌, ◌<◌, ◌≤◌, ◌^◌, List, length, take, if◌then◌else◌}
use Rattle.step_plan.specs.Demand.{demand_at}
use Rattle.network_file.specs.Cells.{is_gate_at}
use Rattle.network_file.specs.Network.{Network}
use Rattle.flow_model.specs.Rows.{moved_row}
use Rattle.flow_model.specs.State.{row_at}
use Rattle.flow_model.specs.declared.row.Row.{Row}

-- the network with its first k connectors alone: its rows after a step are those under way once these have carried their flows
abbrev pub with_connectors : Network → (k : ℕ) → Network
with_connectors net k = record net { connectors = take k net.connectors }

-- the row of cell i as step t begins: the demand of a gate is in, and all that a cell holds waits
abbrev pub begun_row : Network → (t i : ℕ) → Row → Row
begun_row net t i row = moved_row net i row (if is_gate_at net.cells i then demand_at net.plan i t else 0) 0

-- a row after one move: so much left it
abbrev pub row_less : Row → (parts : ℕ) → Row
row_less row parts = record { n = row.n - parts; come = row.come; gone = row.gone + parts; wait = row.wait - parts }

-- or so much entered it
abbrev pub row_more : Row → (parts : ℕ) → Row
row_more row parts = record { n = row.n + parts; come = row.come + parts; gone = row.gone; wait = row.wait }

-- so much can leave the cell of this number
pub record CanLeave (rows : List Row) (cell parts : ℕ) : Type 0 where
  pub there : cell < length rows
  pub held : parts ≤ (row_at rows cell).n
  pub waiting : parts ≤ (row_at rows cell).wait
  pub fits : (row_at rows cell).gone + parts < 2 ^ 64

-- so much can enter it
pub record CanEnter (rows : List Row) (cell parts : ℕ) : Type 0 where
  pub there : cell < length rows
  pub fits : (row_at rows cell).n + parts < 2 ^ 64
  pub all_fit : (row_at rows cell).come + parts < 2 ^ 64

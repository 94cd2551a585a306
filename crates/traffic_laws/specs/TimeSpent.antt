-- The time that traffic has spent in a network, parts times steps.
use Rattle.std.specs.Prelude.{◌≡◌, ℕ, ◌+◌, ◌<◌, List, false, length, not}
use Rattle.network_file.specs.Cells.{is_exit_at}
use Rattle.network_file.specs.Network.{Network}
use Rattle.flow_model.specs.State.{delay_of, occupancy, row_at, state_at}
use Rattle.flow_model.specs.declared.row.Row.{Row}
use Rattle.flow_ledger.specs.Books.{inside_of, sum_where}
use Rattle.flow_ledger.specs.Flight.{gone_of}
use Rattle.traffic_laws.specs.Area.{area_under}

-- the delay, and one step for each cell that was passed: what has gone out of the roads and gates
unfoldable pub time_spent_by : Network → List Row → ℕ
time_spent_by net rows = delay_of rows + sum_where (λ i. not (is_exit_at net.cells i)) (gone_of rows) (length net.cells)

-- of the rows of a step, it is the area under what was inside the network at the steps before
abbrev pub IsAreaInside : Network → List Row → (spent : ℕ) → Type 0
IsAreaInside net rows spent = (t : ℕ) → rows ≡ state_at net t → spent ≡ area_under (λ s. inside_of net (state_at net s)) t

-- and so for each road and gate: its wait, and what has gone out of it, are the area under what it held
abbrev pub IsAreaInEachCell : Network → Type 0
IsAreaInEachCell net =
    (t i : ℕ) → i < length net.cells → is_exit_at net.cells i ≡ false →
    (row_at (state_at net t) i).wait + (row_at (state_at net t) i).gone ≡ area_under (λ s. occupancy (state_at net s) i) t

-- What a step does to the row of a cell.
use Rattle.std.proofs.Common.{◌≡◌, ℕ, false, true, ◌+◌, ◌-◌, ◌<◌, ◌≤◌, length, arith, ap}
use Rattle.network_file.specs.Cells.{is_exit_at}
use Rattle.network_file.specs.Network.{Network}
use Rattle.network_file.specs.Sound.{IsNetwork}
use Rattle.flow_model.specs.Rows.{next_row}
use Rattle.flow_model.specs.State.{occupancy, row_at, state_at}
use Rattle.flow_model.specs.declared.row.Row.{Row}
use Rattle.flow_model.proofs.CellKinds.{cell_at}
use Rattle.flow_model.proofs.CellLimits.{sending_at-le-held}
use Rattle.flow_model.proofs.Flows.{outflow-le}
use Rattle.flow_model.proofs.States.{row_at-state_at-next, row_at-state_at-zero, state_at-in_bounds}
use Rattle.flow_ledger.specs.FlightLaw.{leaves}
use Rattle.flow_ledger.proofs.StateRows.{gone-next}
use Rattle.traffic_laws.specs.Curves.{arrived, departed}

-- what has waited in cell i by step t
abbrev pub waited : Network → (i t : ℕ) → ℕ
waited net i t = (row_at (state_at net t) i).wait

pub waited-zero : (net : Network) (i : ℕ) → i < length net.cells → waited net i 0 ≡ 0
waited-zero net i has = let here = cell_at net.cells i has in ap (λ (row : Row). row.wait) (row_at-state_at-zero net i here.0 here.1)

-- what doesn't leave waits
pub waited-next : (net : Network) (i t : ℕ) → i < length net.cells → is_exit_at net.cells i ≡ false →
    waited net i (t + 1) ≡ waited net i t + (occupancy (state_at net t) i - leaves net t i)
unfolding next_row
waited-next net i t has no_exit = rw no_exit at (ap (λ (row : Row). row.wait) (row_at-state_at-next net t i has))

-- but in an exit
pub waited-exit : (net : Network) (i t : ℕ) → i < length net.cells → is_exit_at net.cells i ≡ true →
    waited net i (t + 1) ≡ waited net i t
unfolding next_row
waited-exit net i t has exit = rw exit at (ap (λ (row : Row). row.wait) (row_at-state_at-next net t i has))

-- no more leaves than is there
pub leaves-le-held : (net : Network) (i t : ℕ) → IsNetwork net → leaves net t i ≤ occupancy (state_at net t) i
leaves-le-held net i t sound =
    omega (arith, outflow-le net t i (occupancy (state_at net t)) sound, sending_at-le-held net t i (occupancy (state_at net t) i) sound)

-- a step adds to the wait, and to what has gone, what is there together
pub spent-next : (net : Network) (i t : ℕ) → IsNetwork net → i < length net.cells → is_exit_at net.cells i ≡ false →
    waited net i (t + 1) + departed net i (t + 1) ≡ waited net i t + departed net i t + occupancy (state_at net t) i
spent-next net i t sound has no_exit =
    omega (arith, waited-next net i t has no_exit, gone-next net t i has, leaves-le-held net i t sound)

-- what is there has arrived and hasn't departed
pub held-between : (net : Network) (i t : ℕ) → IsNetwork net → i < length net.cells → is_exit_at net.cells i ≡ false → t ≤ net.steps →
    occupancy (state_at net t) i + departed net i t ≡ arrived net i t
held-between net i t sound has no_exit within = ((state_at-in_bounds net sound t within).each i has).balance no_exit

-- what has departed by the next step has arrived
pub departed-next-le : (net : Network) (i t : ℕ) → IsNetwork net → i < length net.cells → is_exit_at net.cells i ≡ false → t ≤ net.steps →
    departed net i (t + 1) ≤ arrived net i t
departed-next-le net i t sound has no_exit within =
    omega (arith, held-between net i t sound has no_exit within, gone-next net t i has, leaves-le-held net i t sound)

-- and the rest waits
pub waited-between : (net : Network) (i t : ℕ) → IsNetwork net → i < length net.cells → is_exit_at net.cells i ≡ false → t ≤ net.steps →
    waited net i (t + 1) + departed net i (t + 1) ≡ waited net i t + arrived net i t
waited-between net i t sound has no_exit within =
    omega (arith, spent-next net i t sound has no_exit, held-between net i t sound has no_exit within)

-- What has gone out of a cell and come into it, by the recurrences.
use Rattle.std.specs.List.{list_any}
use Rattle.std.proofs.Common.{◌≡◌, ℕ, zero, suc, add-one, false, ◌+◌, ◌<◌, length, arith, ap}
use Rattle.network_file.specs.Cells.{is_gate_at}
use Rattle.network_file.specs.Connectors.{leads_into, leads_out_of}
use Rattle.network_file.specs.Network.{Network}
use Rattle.flow_model.specs.Rows.{next_row}
use Rattle.flow_model.specs.State.{occupancy, state_at}
use Rattle.flow_model.specs.declared.row.Row.{Row}
use Rattle.flow_model.proofs.CellFlows.{inflow-none, outflow-none}
use Rattle.flow_model.proofs.CellKinds.{cell_at}
use Rattle.flow_model.proofs.States.{row_at-state_at-next, row_at-state_at-zero}
use Rattle.flow_ledger.specs.Flight.{gone_of}
use Rattle.flow_ledger.specs.Books.{come_of}
use Rattle.flow_ledger.specs.FlightLaw.{enters, leaves}

-- at step 0 nothing has moved
pub gone-zero : (net : Network) (i : ℕ) → i < length net.cells → gone_of (state_at net 0) i ≡ 0
gone-zero net i has = let here = cell_at net.cells i has in ap (λ (row : Row). row.gone) (row_at-state_at-zero net i here.0 here.1)

pub come-zero : (net : Network) (i : ℕ) → i < length net.cells → come_of (state_at net 0) i ≡ 0
come-zero net i has = let here = cell_at net.cells i has in ap (λ (row : Row). row.come) (row_at-state_at-zero net i here.0 here.1)

-- a step adds what leaves in it, and what enters
pub gone-next : (net : Network) (t i : ℕ) → i < length net.cells → gone_of (state_at net (t + 1)) i ≡ gone_of (state_at net t) i + leaves net t i
unfolding next_row
gone-next net t i has = ap (λ (row : Row). row.gone) (row_at-state_at-next net t i has)

pub come-next : (net : Network) (t i : ℕ) → i < length net.cells → come_of (state_at net (t + 1)) i ≡ come_of (state_at net t) i + enters net t i
unfolding next_row
come-next net t i has = ap (λ (row : Row). row.come) (row_at-state_at-next net t i has)

-- nothing goes out of a cell that no connector leads out of
pub gone-none : (net : Network) (t i : ℕ) → i < length net.cells → list_any (leads_out_of i) net.connectors ≡ false → gone_of (state_at net t) i ≡ 0
gone-none net zero i has none = gone-zero net i has
gone-none net (suc t) i has none =
    omega (arith, rw add-one at (gone-next net t i has), gone-none net t i has none, outflow-none net t i (occupancy (state_at net t)) none)

-- and nothing comes into one that no connector leads into, but by demand
pub come-none : (net : Network) (t i : ℕ) → i < length net.cells → list_any (leads_into i) net.connectors ≡ false → is_gate_at net.cells i ≡ false →
    come_of (state_at net t) i ≡ 0
come-none net zero i has none no_gate = come-zero net i has
come-none net (suc t) i has none no_gate =
    omega (arith, rw add-one at (come-next net t i has), come-none net t i has none no_gate, inflow-none net t i (occupancy (state_at net t)) none no_gate)

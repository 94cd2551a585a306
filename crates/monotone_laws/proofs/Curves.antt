-- What has come into a cell and gone out of it, as curves over the steps, in a network of links alone.
use Rattle.std.specs.Prelude.{sum_by, min, ◌==◌}
use Rattle.std.proofs.Common.{◌≡◌, ℕ, zero, suc, add-one, true, false, ◌+◌, ◌<◌, ◌≤◌, [], length, arith, refl, subst, ◌∙◌}
use Rattle.std.proofs.lemmas.Bool.{eq-eqb}
use Rattle.std.proofs.lemmas.List.Sums.{sum_by-cons}
use Rattle.step_plan.specs.Total.{demand_from}
use Rattle.step_plan.proofs.Laws.{demand_from_next, demand_from_none}
use Rattle.network_file.specs.Cells.{is_exit_at, is_gate_at}
use Rattle.network_file.specs.Connectors.{downstream_of, leads_out_of, upstream_of}
use Rattle.network_file.specs.Network.{Network}
use Rattle.network_file.specs.Sound.{IsNetwork}
use Rattle.network_file.specs.declared.connector.Connector.{Connector}
use Rattle.flow_model.specs.Bounds.{first_at}
use Rattle.flow_model.specs.Flows.{flow_of, leaving, outflow}
use Rattle.flow_model.specs.Limits.{receiving_at, sending_at}
use Rattle.flow_model.specs.State.{occupancy, state_at}
use Rattle.flow_model.proofs.CellFlows.{outflow-by}
use Rattle.flow_model.proofs.Flows.{inflow-gate}
use Rattle.flow_model.proofs.States.{state_at-in_bounds}
use Rattle.flow_ledger.specs.Flight.{gone_of}
use Rattle.flow_ledger.specs.Books.{come_of}
use Rattle.flow_ledger.specs.FlightLaw.{leaves}
use Rattle.flow_ledger.proofs.EvenFlights.{even}
use Rattle.flow_ledger.proofs.StateRows.{come-next, come-zero, gone-next}
use Rattle.monotone_laws.proofs.Linked.{IsLinked, linked-up}

-- what has gone out of cell i by step t, what has come into it, and what it holds
abbrev pub gone : Network → (t i : ℕ) → ℕ
gone net t i = gone_of (state_at net t) i

abbrev pub come : Network → (t i : ℕ) → ℕ
come net t i = come_of (state_at net t) i

abbrev pub held : Network → (t i : ℕ) → ℕ
held net t i = occupancy (state_at net t) i

-- what a link from cell i into cell j carries in step t
abbrev pub carried : Network → (t i j : ℕ) → ℕ
carried net t i j = min (sending_at net t i (held net t i)) (receiving_at net t j (held net t j))

leaves-linked : (net : Network) (t i j : ℕ) → IsNetwork net → IsLinked net i j → leaves net t i ≡ carried net t i j
unfolding flow_of
leaves-linked net t i j sound linked =
    let n : ℕ → ℕ = occupancy (state_at net t) in
    let own : (i == i) ≡ true = eq-eqb i i refl in
    let by_it : Connector → Type 0 = λ connector. leads_out_of i connector ≡ true → outflow net t n i ≡ leaving i connector (flow_of net t n connector) in
    let by = subst by_it linked.is (λ out. outflow-by net t linked.k i n sound linked.there out) in
    by (rw own refl) ∙ rw own (omega arith)

-- a step adds that
pub gone-linked : (net : Network) (t i j : ℕ) → IsNetwork net → IsLinked net i j → gone net (t + 1) i ≡ gone net t i + carried net t i j
gone-linked net t i j sound linked =
    omega (arith, gone-next net t i (linked-up net i j sound linked).0, leaves-linked net t i j sound linked)

-- what has come into the cell downstream has gone out of the one upstream
pub come-linked : (net : Network) (t i j : ℕ) → IsNetwork net → IsLinked net i j → come net t j ≡ gone net t i
come-linked net t i j sound linked =
    let by : Connector → Type 0 = λ connector.
    sum_by (gone_of (state_at net t)) (upstream_of connector) ≡ sum_by (come_of (state_at net t)) (downstream_of connector) in
    let both = subst by linked.is (even net t linked.k sound linked.there) in
    omega (arith, both, sum_by-cons (gone_of (state_at net t)) i [], sum_by-cons (come_of (state_at net t)) j [])

-- what a road or a gate holds, or has passed on, is what it held at first and what came
pub held-gone : (net : Network) (t i : ℕ) → IsNetwork net → t ≤ net.steps → i < length net.cells → is_exit_at net.cells i ≡ false →
    held net t i + gone net t i ≡ first_at net.cells i + come net t i
held-gone net t i sound within has stays = ((state_at-in_bounds net sound t within).each i has).balance stays

-- into a gate comes its demand
pub come-gate : (net : Network) (t i : ℕ) → i < length net.cells → is_gate_at net.cells i ≡ true → come net t i ≡ demand_from net.plan i 0 t
come-gate net zero i has gate = omega (arith, come-zero net i has, demand_from_none net.plan i 0)
come-gate net (suc t) i has gate =
    let next : come net (t + 1) i ≡ demand_from net.plan i 0 (t + 1) =
    omega (
      arith,
      come-next net t i has,
      inflow-gate net t i (occupancy (state_at net t)) gate,
      demand_from_next net.plan i t,
      come-gate net t i has gate,
    ) in
    rw add-one at next

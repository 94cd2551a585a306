-- What leaves a cell is at most what it can send, and what enters it is at most what it can receive.
use Rattle.std.specs.Prelude.{count_by}
use Rattle.std.proofs.Common.{◌≡◌, inl, inr, ℕ, ◌*◌, ◌<◌, ◌≤◌, true, false, length, arith, refl}
use Rattle.std.proofs.lemmas.Bool.{cases_Bool}
use Rattle.std.proofs.lemmas.List.Elements.{All-weaker}
use Rattle.std.proofs.lemmas.List.Sums.{sum_by-le}
use Rattle.step_plan.specs.Demand.{demand_at}
use Rattle.network_file.specs.Cells.{is_gate_at, is_exit_at}
use Rattle.network_file.specs.Connectors.{leads_out_of, leads_into, upstream_of, downstream_of}
use Rattle.network_file.specs.Network.{Network}
use Rattle.network_file.specs.Sound.{IsNetwork, IsSoundConnector}
use Rattle.network_file.specs.declared.connector.Connector.{Connector}
use Rattle.flow_model.specs.Limits.{sending_at, receiving_at}
use Rattle.flow_model.specs.Flows.{flow_of, leaving, entering, outflow, inflow}
use Rattle.step_plan.proofs.Sums.{sum_by-le-count_by}
use Rattle.flow_model.proofs.Connectors.{leaving-le, entering-le, leaving-other, at_listed}

-- at most one connector leads out of a cell, and at most one into it
at_most_one : (sum count m : ℕ) → sum ≤ count * m → count ≤ 1 → sum ≤ m
at_most_one sum count m bound one = grind arith

-- what leaves a cell in a step is at most what it can send
pub outflow-le : (net : Network) (t i : ℕ) (n : ℕ → ℕ) → IsNetwork net → outflow net t n i ≤ sending_at net t i (n i)
unfolding outflow
outflow-le net t i n sound =
    at_most_one _ (count_by (leads_out_of i) net.connectors) (sending_at net t i (n i))
    (sum_by-le-count_by (IsSoundConnector net.cells) (λ c. leaving i c (flow_of net t n c)) (leads_out_of i) (sending_at net t i (n i))
    net.connectors (leaving-le net t i n) sound.sound.sound_connectors)
    (sound.sound.one_out i)

-- what enters a road or an exit is at most what it can receive
pub inflow-le : (net : Network) (t i : ℕ) (n : ℕ → ℕ) → IsNetwork net → is_gate_at net.cells i ≡ false →
    inflow net t n i ≤ receiving_at net t i (n i)
unfolding inflow
inflow-le net t i n sound no_gate =
    rw no_gate (
    at_most_one _ (count_by (leads_into i) net.connectors) (receiving_at net t i (n i))
    (sum_by-le-count_by (IsSoundConnector net.cells) (λ c. entering i c (flow_of net t n c)) (leads_into i) (receiving_at net t i (n i))
    net.connectors (entering-le net t i n) sound.sound.sound_connectors)
    (sound.sound.one_in i)
    )

-- and what enters a gate is its demand
pub inflow-gate : (net : Network) (t i : ℕ) (n : ℕ → ℕ) → is_gate_at net.cells i ≡ true → inflow net t n i ≡ demand_at net.plan i t
unfolding inflow
inflow-gate net t i n gate = rw gate refl

-- no connector leads into a gate
pub leads_into-gate : (net : Network) (i : ℕ) (connector : Connector) → IsSoundConnector net.cells connector →
    is_gate_at net.cells i ≡ true → leads_into i connector ≡ false
leads_into-gate net i connector sound gate = elim (cases_Bool (leads_into i connector)) [
  | inl into ↦
      let no_gate = (at_listed (λ j. (j < length net.cells) × (is_gate_at net.cells j ≡ false)) i (downstream_of connector) into sound.down).1 in cc
  | inr other ↦ other
]

-- no connector leads out of an exit
pub leads_out_of-exit : (net : Network) (i : ℕ) (connector : Connector) → IsSoundConnector net.cells connector →
    is_exit_at net.cells i ≡ true → leads_out_of i connector ≡ false
leads_out_of-exit net i connector sound exit = elim (cases_Bool (leads_out_of i connector)) [
  | inl out ↦ let no_exit = (at_listed (λ j. (j < length net.cells) × (is_exit_at net.cells j ≡ false)) i (upstream_of connector) out sound.up).1 in cc
  | inr other ↦ other
]

-- so nothing leaves an exit
pub outflow-exit : (net : Network) (t i : ℕ) (n : ℕ → ℕ) → IsNetwork net → is_exit_at net.cells i ≡ true → outflow net t n i ≡ 0
unfolding outflow
outflow-exit net t i n sound exit =
    omega (
      arith,
      sum_by-le (λ c. leaving i c (flow_of net t n c)) 0 net.connectors (
          All-weaker (IsSoundConnector net.cells) (λ c. leaving i c (flow_of net t n c) ≤ 0)
          (λ c fits. omega (arith, leaving-other i c (flow_of net t n c) (leads_out_of-exit net i c fits exit)))
          net.connectors sound.sound.sound_connectors
          ),
    )

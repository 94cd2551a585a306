-- What leaves and enters a cell by the first connectors of a network: by one more, and by all.
use Rattle.std.specs.Prelude.{sum_by, if◌then◌else◌}
use Rattle.std.proofs.Common.{◌≡◌, inl, inr, ℕ, ◌+◌, ◌<◌, ◌≤◌, false, length, take, arith, refl, sym, ap, ◌∙◌}
use Rattle.std.proofs.lemmas.Bool.{cases_Bool}
use Rattle.std.proofs.lemmas.List.{take_all, take_more}
use Rattle.std.proofs.lemmas.List.Sums.{sum_by_push, sum_by-take-le}
use Rattle.step_plan.specs.Demand.{demand_at}
use Rattle.step_plan.proofs.Sums.{sum_by_agree}
use Rattle.network_file.specs.Cells.{is_gate_at}
use Rattle.network_file.specs.Numbered.{connector_at}
use Rattle.network_file.specs.Network.{Network}
use Rattle.network_file.specs.Sound.{IsNetwork}
use Rattle.network_file.specs.declared.connector.Connector.{Connector}
use Rattle.network_file.specs.declared.connector.Connector.TheVariants.{Link, Merge, Diverge}
use Rattle.flow_model.specs.Flows.{flow_of, leaving, entering, outflow, inflow}
use Rattle.flow_model.specs.Limits.{sending_at, receiving_at}
use Rattle.flow_model.specs.Moves.{with_connectors}
use Rattle.network_file.proofs.NetworkFacts.{connector_at-sound}
use Rattle.flow_model.proofs.Connectors.{entering-other}
use Rattle.flow_model.proofs.Flows.{inflow-gate, leads_into-gate}

-- each connector carries what it carries in the whole network
flow_of-with_connectors : (net : Network) (t : ℕ) (n : ℕ → ℕ) (k : ℕ) (connector : Connector) →
    flow_of (with_connectors net k) t n connector ≡ flow_of net t n connector
unfolding flow_of sending_at receiving_at
flow_of-with_connectors net t n k (Link up down) = refl
flow_of-with_connectors net t n k (Merge up1 up2 down p1 p2) = refl
flow_of-with_connectors net t n k (Diverge up down1 down2 b1 b2) = refl

-- what leaves the cell is a sum over the first connectors
outflow-sum : (net : Network) (t : ℕ) (n : ℕ → ℕ) (i k : ℕ) →
    outflow (with_connectors net k) t n i ≡ sum_by (λ c. leaving i c (flow_of net t n c)) (take k net.connectors)
unfolding outflow
outflow-sum net t n i k =
    sum_by_agree (λ c. leaving i c (flow_of (with_connectors net k) t n c)) (λ c. leaving i c (flow_of net t n c)) (take k net.connectors)
    (λ c. ap (leaving i c) (flow_of-with_connectors net t n k c))

-- and so is what enters it, where it is no gate
inflow-sum : (net : Network) (t : ℕ) (n : ℕ → ℕ) (i k : ℕ) → is_gate_at net.cells i ≡ false →
    inflow (with_connectors net k) t n i ≡ sum_by (λ c. entering i c (flow_of net t n c)) (take k net.connectors)
unfolding inflow
inflow-sum net t n i k no_gate =
    ap (λ gate. if gate then demand_at net.plan i t
    else sum_by (λ c. entering i c (flow_of (with_connectors net k) t n c)) (take k net.connectors)) no_gate ∙
    sum_by_agree (λ c. entering i c (flow_of (with_connectors net k) t n c)) (λ c. entering i c (flow_of net t n c)) (take k net.connectors)
    (λ c. ap (entering i c) (flow_of-with_connectors net t n k c))

inflow-whole : (net : Network) (t : ℕ) (n : ℕ → ℕ) (i : ℕ) → is_gate_at net.cells i ≡ false →
    inflow net t n i ≡ sum_by (λ c. entering i c (flow_of net t n c)) net.connectors
unfolding inflow
inflow-whole net t n i no_gate =
    ap (λ gate. if gate then demand_at net.plan i t else sum_by (λ c. entering i c (flow_of net t n c)) net.connectors) no_gate

-- one connector more
pub outflow-more : (net : Network) (t : ℕ) (n : ℕ → ℕ) (i k : ℕ) → k < length net.connectors →
    outflow (with_connectors net (k + 1)) t n i ≡
    outflow (with_connectors net k) t n i + leaving i (connector_at net.connectors k) (flow_of net t n (connector_at net.connectors k))
outflow-more net t n i k there =
    let out : Connector → ℕ = λ c. leaving i c (flow_of net t n c) in
    omega (
      arith,
      outflow-sum net t n i (k + 1),
      outflow-sum net t n i k,
      ap (sum_by out) (take_more net.connectors k (Link 0 0) there),
      sum_by_push out (take k net.connectors) (connector_at net.connectors k),
    )

pub inflow-more : (net : Network) (t : ℕ) (n : ℕ → ℕ) (i k : ℕ) → IsNetwork net → k < length net.connectors →
    inflow (with_connectors net (k + 1)) t n i ≡
    inflow (with_connectors net k) t n i + entering i (connector_at net.connectors k) (flow_of net t n (connector_at net.connectors k))
inflow-more net t n i k sound there = elim (cases_Bool (is_gate_at net.cells i)) [
  | inl gate ↦
      let connector : Connector = connector_at net.connectors k in
      let more : inflow (with_connectors net (k + 1)) t n i ≡ demand_at net.plan i t = inflow-gate (with_connectors net (k + 1)) t i n gate in
      let less : inflow (with_connectors net k) t n i ≡ demand_at net.plan i t = inflow-gate (with_connectors net k) t i n gate in
      let none = entering-other i connector (flow_of net t n connector) (leads_into-gate net i connector (connector_at-sound net k sound there) gate) in
      omega (arith, more, less, none)
  | inr other ↦
      let into : Connector → ℕ = λ c. entering i c (flow_of net t n c) in
      omega (
        arith,
        inflow-sum net t n i (k + 1) other,
        inflow-sum net t n i k other,
        ap (sum_by into) (take_more net.connectors k (Link 0 0) there),
        sum_by_push into (take k net.connectors) (connector_at net.connectors k),
      )
]

-- the first connectors take and bring no more than all
pub outflow-with_connectors-le : (net : Network) (t : ℕ) (n : ℕ → ℕ) (i k : ℕ) → outflow (with_connectors net k) t n i ≤ outflow net t n i
unfolding outflow
outflow-with_connectors-le net t n i k =
    omega (arith, outflow-sum net t n i k, sum_by-take-le (λ c. leaving i c (flow_of net t n c)) net.connectors k)

pub inflow-with_connectors-le : (net : Network) (t : ℕ) (n : ℕ → ℕ) (i k : ℕ) → inflow (with_connectors net k) t n i ≤ inflow net t n i
inflow-with_connectors-le net t n i k = elim (cases_Bool (is_gate_at net.cells i)) [
  | inl gate ↦
      let some : inflow (with_connectors net k) t n i ≡ demand_at net.plan i t = inflow-gate (with_connectors net k) t i n gate in
      omega (arith, some, inflow-gate net t i n gate)
  | inr other ↦
      omega (
        arith,
        inflow-sum net t n i k other,
        inflow-whole net t n i other,
        sum_by-take-le (λ c. entering i c (flow_of net t n c)) net.connectors k,
      )
]

-- and once they are all, the same
pub outflow-all : (net : Network) (t : ℕ) (n : ℕ → ℕ) (i k : ℕ) → length net.connectors ≤ k → outflow (with_connectors net k) t n i ≡ outflow net t n i
unfolding outflow
outflow-all net t n i k past =
    outflow-sum net t n i k ∙ ap (sum_by (λ c. leaving i c (flow_of net t n c))) (take_all k net.connectors past)

pub inflow-all : (net : Network) (t : ℕ) (n : ℕ → ℕ) (i k : ℕ) → length net.connectors ≤ k → inflow (with_connectors net k) t n i ≡ inflow net t n i
inflow-all net t n i k past = elim (cases_Bool (is_gate_at net.cells i)) [
  | inl gate ↦
      let some : inflow (with_connectors net k) t n i ≡ demand_at net.plan i t = inflow-gate (with_connectors net k) t i n gate in
      some ∙ sym (inflow-gate net t i n gate)
  | inr other ↦
      inflow-sum net t n i k other ∙ ap (sum_by (λ c. entering i c (flow_of net t n c))) (take_all k net.connectors past) ∙
      sym (inflow-whole net t n i other)
]

-- What leaves and enters a cell in a step, by its one connector or by none; what leaves the cells of a connector enters them.
use Rattle.std.specs.Prelude.{All, eqb, sum_by, if◌then◌else◌, ◌==◌}
use Rattle.std.specs.List.{IsDistinct, list_any}
use Rattle.std.proofs.Common.{◌≡◌, inl, inr, ℕ, true, false, ◌+◌, ◌<◌, List, length, get_or, arith, refl, sym, ◌∙◌}
use Rattle.std.proofs.lemmas.Bool.{cases_Bool, eq-eqb, eqb-true}
use Rattle.std.proofs.lemmas.List.Folds.{list_any_at}
use Rattle.network_file.specs.Cells.{is_gate_at}
use Rattle.network_file.specs.Connectors.{upstream_of, downstream_of, leads_out_of, leads_into}
use Rattle.network_file.specs.Numbered.{connector_at}
use Rattle.network_file.specs.Network.{Network}
use Rattle.network_file.specs.Sound.{IsNetwork}
use Rattle.network_file.specs.declared.connector.Connector.{Connector}
use Rattle.network_file.specs.declared.connector.Connector.TheVariants.{Link, Merge, Diverge}
use Rattle.flow_model.specs.Flows.{flow_of, leaving, entering, outflow, inflow}
use Rattle.flow_model.specs.declared.carried.Flow.{Flow}
use Rattle.step_plan.proofs.Sums.{sum_by-one, sum_by-no, sum_by-same}
use Rattle.network_file.proofs.NetworkFacts.{connector_at-sound}
use Rattle.flow_model.proofs.Connectors.{leaving-other, entering-other, flow_of-conserved}

-- by its one connector
pub outflow-by : (net : Network) (t k i : ℕ) (n : ℕ → ℕ) → IsNetwork net → k < length net.connectors →
    leads_out_of i (connector_at net.connectors k) ≡ true →
    outflow net t n i ≡ leaving i (connector_at net.connectors k) (flow_of net t n (connector_at net.connectors k))
unfolding outflow
outflow-by net t k i n sound there out =
    sum_by-one (λ c. leaving i c (flow_of net t n c)) (leads_out_of i) net.connectors k (Link 0 0)
    (λ c other. leaving-other i c (flow_of net t n c) other) (sound.sound.one_out i) there out

pub inflow-by : (net : Network) (t k i : ℕ) (n : ℕ → ℕ) → IsNetwork net → k < length net.connectors →
    leads_into i (connector_at net.connectors k) ≡ true → is_gate_at net.cells i ≡ false →
    inflow net t n i ≡ entering i (connector_at net.connectors k) (flow_of net t n (connector_at net.connectors k))
unfolding inflow
inflow-by net t k i n sound there into no_gate =
    rw no_gate (
    sum_by-one (λ c. entering i c (flow_of net t n c)) (leads_into i) net.connectors k (Link 0 0)
    (λ c other. entering-other i c (flow_of net t n c) other) (sound.sound.one_in i) there into
    )

-- or by none
pub outflow-none : (net : Network) (t i : ℕ) (n : ℕ → ℕ) → list_any (leads_out_of i) net.connectors ≡ false → outflow net t n i ≡ 0
unfolding outflow
outflow-none net t i n none =
    sum_by-no (λ c. leaving i c (flow_of net t n c)) (leads_out_of i) net.connectors (λ c other. leaving-other i c (flow_of net t n c) other) none

pub inflow-none : (net : Network) (t i : ℕ) (n : ℕ → ℕ) → list_any (leads_into i) net.connectors ≡ false → is_gate_at net.cells i ≡ false →
    inflow net t n i ≡ 0
unfolding inflow
inflow-none net t i n none no_gate =
    rw no_gate (
    sum_by-no (λ c. entering i c (flow_of net t n c)) (leads_into i) net.connectors (λ c other. entering-other i c (flow_of net t n c) other) none
    )

-- the amounts of distinct cells, each its own

own_amount : (a b amount other : ℕ) → eqb a b ≡ false →
    ((if a == a then amount else 0) + ((if a == b then other else 0) + 0) ≡ amount) ×
    ((if b == a then amount else 0) + ((if b == b then other else 0) + 0) ≡ other)
own_amount a b amount other apart =
    let same_a : (a == a) ≡ true = eq-eqb a a refl in
    let same_b : (b == b) ≡ true = eq-eqb b b refl in
    let apart_back : (b == a) ≡ false = apart_sym in
    rw (same_a, same_b, apart, apart_back) (omega arith, omega arith)
  where
    apart_sym : (b == a) ≡ false
    apart_sym = elim (cases_Bool (b == a)) [
      | inl same ↦ let back : (a == b) ≡ true = eq-eqb a b (sym (eqb-true b a same)) in cc
      | inr other ↦ other
    ]

-- what leaves the cells upstream of a connector
sent_in_all : (net : Network) (t : ℕ) (n : ℕ → ℕ) (connector : Connector) → IsDistinct eqb (upstream_of connector) →
    sum_by (λ i. leaving i connector (flow_of net t n connector)) (upstream_of connector) ≡
    (flow_of net t n connector).out1 + (flow_of net t n connector).out2
unfolding IsDistinct flow_of
sent_in_all net t n (Link up down) apart = let own : (up == up) ≡ true = eq-eqb up up refl in rw own (omega arith)
sent_in_all net t n (Merge up1 up2 down p1 p2) apart =
    let flow : Flow = flow_of net t n (Merge up1 up2 down p1 p2) in
    let own = own_amount up1 up2 flow.out1 flow.out2 apart.0.0 in omega (arith, own.0, own.1)
sent_in_all net t n (Diverge up down1 down2 b1 b2) apart = let own : (up == up) ≡ true = eq-eqb up up refl in rw own (omega arith)

received_in_all : (net : Network) (t : ℕ) (n : ℕ → ℕ) (connector : Connector) → IsDistinct eqb (downstream_of connector) →
    sum_by (λ i. entering i connector (flow_of net t n connector)) (downstream_of connector) ≡
    (flow_of net t n connector).in1 + (flow_of net t n connector).in2
unfolding IsDistinct flow_of
received_in_all net t n (Link up down) apart = let own : (down == down) ≡ true = eq-eqb down down refl in rw own (omega arith)
received_in_all net t n (Merge up1 up2 down p1 p2) apart = let own : (down == down) ≡ true = eq-eqb down down refl in rw own (omega arith)
received_in_all net t n (Diverge up down1 down2 b1 b2) apart =
    let flow : Flow = flow_of net t n (Diverge up down1 down2 b1 b2) in
    let own = own_amount down1 down2 flow.in1 flow.in2 apart.0.0 in omega (arith, own.0, own.1)

-- each cell of a list is one of it
listed : (cells : List ℕ) → All (λ i. list_any (eqb i) cells ≡ true) cells
listed cells = λ k d within. list_any_at (eqb (get_or cells k d)) cells k d within (eq-eqb _ _ refl)

-- what leaves the cells upstream of a connector in a step is what enters the cells downstream of it
pub connector-conserves : (net : Network) (t k : ℕ) (n : ℕ → ℕ) → IsNetwork net → k < length net.connectors →
    sum_by (outflow net t n) (upstream_of (connector_at net.connectors k)) ≡
    sum_by (inflow net t n) (downstream_of (connector_at net.connectors k))
connector-conserves net t k n sound there =
    let connector : Connector = connector_at net.connectors k in
    let fits = connector_at-sound net k sound there in
    let flow : Flow = flow_of net t n connector in
    let up : List ℕ = upstream_of connector in
    let down : List ℕ = downstream_of connector in
    let sent = sum_by-same (λ i. list_any (eqb i) up ≡ true) (outflow net t n) (λ i. leaving i connector flow) up
    (λ i out. outflow-by net t k i n sound there out) (listed up) in
    let received = sum_by-same (λ i. (list_any (eqb i) down ≡ true) × (is_gate_at net.cells i ≡ false)) (inflow net t n) (λ i. entering i connector flow) down
    (λ i into. inflow-by net t k i n sound there into.0 into.1) (λ j d within. (listed down j d within, (fits.down j d within).1)) in
    sent ∙ sent_in_all net t n connector fits.up_apart ∙ flow_of-conserved net t n connector ∙
    sym (received ∙ received_in_all net t n connector fits.down_apart)

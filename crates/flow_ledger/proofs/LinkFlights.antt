-- The flight of a link is the flow of one step.
use Rattle.std.specs.Prelude.{All, sum_by, ◌==◌}
use Rattle.std.proofs.Common.{◌≡◌, inl, inr, ℕ, pos, neg_ℤ, false, true, ◌+◌, ◌<◌, List, [], ◌∷◌, length, arith, refl, subst, sym, ◌∙◌}
use Rattle.std.proofs.lemmas.Bool.{eq-eqb, ne_eqb}
use Rattle.std.proofs.lemmas.Int.{ints}
use Rattle.std.proofs.lemmas.List.Elements.{All-cons, All-nil}
use Rattle.network_file.specs.Cells.{is_gate_at}
use Rattle.network_file.specs.Connectors.{leads_into, leads_out_of}
use Rattle.network_file.specs.Numbered.{connector_at}
use Rattle.network_file.specs.Network.{Network}
use Rattle.network_file.specs.Sound.{IsNetwork, IsSoundConnector}
use Rattle.network_file.specs.declared.connector.Connector.{Connector}
use Rattle.network_file.specs.declared.connector.Connector.TheVariants.{Link}
use Rattle.network_file.proofs.NetworkFacts.{connector_at-sound}
use Rattle.flow_model.specs.Flows.{entering, flow_of, inflow, leaving, outflow}
use Rattle.flow_model.specs.State.{occupancy, state_at}
use Rattle.flow_model.specs.declared.row.Row.{Row}
use Rattle.flow_model.proofs.CellFlows.{inflow-by, outflow-by}
use Rattle.flow_ledger.specs.Flight.{flight_of}
use Rattle.flow_ledger.specs.FlightLaw.{FlightLaw, IsClose, LinkFlightLaw, ahead, enters, leaves}
use Rattle.flow_ledger.specs.UnevenSteps.{StandAt}
use Rattle.flow_ledger.proofs.FlightLaws.{flight-law}

-- what a link carries in step m
carried : Network → (m up down : ℕ) → ℕ
carried net m up down = (flow_of net m (occupancy (state_at net m)) (Link up down)).out1

leaves-link : (net : Network) (m k up down : ℕ) → IsNetwork net → k < length net.connectors → connector_at net.connectors k ≡ Link up down →
    leaves net m up ≡ carried net m up down
unfolding carried
leaves-link net m k up down sound there is =
    let n : ℕ → ℕ = occupancy (state_at net m) in
    let own : (up == up) ≡ true = eq-eqb up up refl in
    let by_it : Connector → Type 0 = λ connector. leads_out_of up connector ≡ true → outflow net m n up ≡ leaving up connector (flow_of net m n connector) in
    let by = subst by_it is (λ out. outflow-by net m k up n sound there out) in
    by (rw own refl) ∙ rw own (omega arith)

enters-link : (net : Network) (m k up down : ℕ) → IsNetwork net → k < length net.connectors → connector_at net.connectors k ≡ Link up down →
    enters net m down ≡ carried net m up down
unfolding carried flow_of
enters-link net m k up down sound there is =
    let n : ℕ → ℕ = occupancy (state_at net m) in
    let own : (down == down) ≡ true = eq-eqb down down refl in
    let fits = subst (IsSoundConnector net.cells) is (connector_at-sound net k sound there) in
    let no_gate : is_gate_at net.cells down ≡ false = (fits.down 0 0 (omega arith)).1 in
    let by_it : Connector → Type 0 = λ connector. leads_into down connector ≡ true → inflow net m n down ≡ entering down connector (flow_of net m n connector) in
    let by = subst by_it is (λ into. inflow-by net m k down n sound there into no_gate) in
    by (rw own refl) ∙ rw own (omega arith)

-- of one cell, what moved in step m
one_ahead : (f s : ℕ → ℕ) (m i : ℕ) → s i ≡ m + 1 → sum_by f (ahead s m (i ∷ [])) ≡ f i
one_ahead f s m i past = let here : (s i == m + 1) ≡ true = eq-eqb (s i) (m + 1) past in rw here (omega arith)

one_behind : (f s : ℕ → ℕ) (m i : ℕ) → s i ≡ m → sum_by f (ahead s m (i ∷ [])) ≡ 0
one_behind f s m i same =
    let behind : (s i == m + 1) ≡ false = ne_eqb (s i) (m + 1) (λ past. absurd (omega arith)) in rw behind (omega arith)

two_cells : (s : ℕ → ℕ) (m up down : ℕ) → IsClose s m up → IsClose s m down → All (IsClose s m) (up ∷ down ∷ [])
two_cells s m up down first second = All-cons (IsClose s m) up (down ∷ []) first (All-cons (IsClose s m) down [] second (All-nil (IsClose s m)))

link_of : (net : Network) (rows : List Row) (k up down : ℕ) → IsNetwork net → k < length net.connectors → connector_at net.connectors k ≡ Link up down →
    FlightLaw net rows (Link up down) (flight_of net rows k)
link_of net rows k up down sound there is =
    let by : Connector → Type 0 = λ connector. FlightLaw net rows connector (flight_of net rows k) in
    subst by is (flight-law net rows k sound there)

link_flight : (net : Network) (rows : List Row) (k : ℕ) (s : ℕ → ℕ) (m up down : ℕ) → IsNetwork net → k < length net.connectors → StandAt net s rows →
    connector_at net.connectors k ≡ Link up down →
    (s up ≡ m + 1 → s down ≡ m → flight_of net rows k ≡ pos (carried net m up down)) ×
    (s up ≡ m → s down ≡ m + 1 → flight_of net rows k ≡ neg_ℤ (pos (carried net m up down)))
link_flight net rows k s m up down sound there stand is =
    let law = link_of net rows k up down sound there is s m stand in (
      (λ past same.
          omega (arith, ints, law (two_cells s m up down (inr past) (inl same)), one_ahead (leaves net m) s m up past, one_behind (enters net m) s m down same, leaves-link net m k up down sound there is)),
      (λ same past.
          omega (arith, ints, law (two_cells s m up down (inl same) (inr past)), one_behind (leaves net m) s m up same, one_ahead (enters net m) s m down past, enters-link net m k up down sound there is)),
    )

pub link-flight-law : (net : Network) (rows : List Row) (k : ℕ) → IsNetwork net → k < length net.connectors →
    LinkFlightLaw net rows (connector_at net.connectors k) (flight_of net rows k)
unfolding carried
link-flight-law net rows k sound there s m up down stand is =
    let flow : Connector → ℕ = λ connector. (flow_of net m (occupancy (state_at net m)) connector).out1 in
    let by : Connector → Type 0 = λ connector.
    (s up ≡ m + 1 → s down ≡ m → flight_of net rows k ≡ pos (flow connector)) × (s up ≡ m → s down ≡ m + 1 → flight_of net rows k ≡ neg_ℤ (pos (flow connector))) in
    subst by (sym is) (link_flight net rows k s m up down sound there stand is)

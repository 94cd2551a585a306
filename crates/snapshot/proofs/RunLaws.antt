-- The laws of flights and books at lawful steps of a true start.
use Rattle.std.specs.Prelude.{All, slice_index}
use Rattle.std.specs.List.{Contains}
use Rattle.std.proofs.Common.{◌≡◌, ℕ, ◌<◌, ◌≤◌, ◌+◌, inl, inr, List, [], ◌∷◌, ℤ, length, get_or, refl, sym, ap, subst, ◌∙◌, arith}
use Rattle.std.proofs.lemmas.Bool.{cases_eq, cases_lt}
use Rattle.std.proofs.lemmas.List.Elements.{All-cons, All-nil, Contains-get_or}
use Rattle.network_file.specs.Connectors.{cells_of}
use Rattle.network_file.specs.Numbered.{connector_at}
use Rattle.network_file.specs.Network.{Network}
use Rattle.network_file.specs.Sound.{IsNetwork}
use Rattle.network_file.specs.declared.connector.Connector.{Connector}
use Rattle.network_file.specs.declared.connector.Connector.TheVariants.{Link}
use Rattle.flow_model.specs.declared.row.Row.{Row}
use Rattle.flow_ledger.specs.FlightLaw.{FlightAtOneStep, FlightLaw, IsClose, LinkFlightLaw}
use Rattle.flow_ledger.specs.UnevenSteps.{StandAt}
use Rattle.region_cut.specs.Cuttings.{region_at}
use Rattle.region_cut.specs.LawfulSteps.{AreLawful}
use Rattle.region_cut.proofs.Anys.{test_from_Contains}
use Rattle.region_cut.proofs.Meetings.{neighbours-from, touches-touches_region}
use Rattle.region_cut.proofs.Membership.{region_at-there}
use Rattle.region_step.specs.Start.{StartLists}
use Rattle.region_step.proofs.Grids.{are_the_recurrences}
use Rattle.snapshot.specs.RunLaws.{AreReached, AreRowsAt, IsLeastStep, IsLinkFlow, IsStepFlow, cell_step}

-- the rows are those of the recurrences, each at its region's step
pub stand_at : (net : Network) (cut : List ℕ) (start : StartLists) (steps : List ℕ) (rows : List Row) → IsNetwork net → AreRowsAt net cut start steps rows → StandAt net (cell_step cut steps) rows
stand_at net cut start steps rows sound are =
    let reached : AreReached net cut start steps = are.reached in
    record {
      in_time = λ i there. reached.lawful.in_time (region_at cut i) 0 (omega (arith, region_at-there cut i, reached.lawful.one_each));
      each = λ i there. are.each i there ∙ are_the_recurrences net cut start sound reached.from reached.true_start (cell_step cut steps i) i there (reached.started (region_at cut i));
    }

-- cells of one connector stand at most one step apart
close-cells : (net : Network) (cut steps : List ℕ) (connector : Connector) (i j : ℕ) → AreLawful net cut steps → Contains net.connectors connector → Contains (cells_of connector) i → Contains (cells_of connector) j →
    cell_step cut steps j ≤ cell_step cut steps i + 1
close-cells net cut steps connector i j lawful listed first second = elim (cases_eq (region_at cut j) (region_at cut i)) [
  | inl same ↦ omega (arith, ap (slice_index steps) same)
  | inr other ↦
      let touched_j = touches-touches_region cut (region_at cut j) j connector (test_from_Contains (cells_of connector) j second) refl in
      let touched_i = touches-touches_region cut (region_at cut i) i connector (test_from_Contains (cells_of connector) i first) refl in
      lawful.close (region_at cut j) (region_at cut i) (neighbours-from net.connectors cut (region_at cut j) (region_at cut i) connector listed other touched_j touched_i)
]

-- so each stands at the least step of them or one past it
all-close : (net : Network) (cut steps : List ℕ) (connector : Connector) (m : ℕ) → AreLawful net cut steps → Contains net.connectors connector → IsLeastStep cut steps connector m →
    All (IsClose (cell_step cut steps) m) (cells_of connector)
all-close net cut steps connector m lawful listed is = λ k d within.
    let j : ℕ = get_or (cells_of connector) k d in
    let has : Contains (cells_of connector) j = Contains-get_or (cells_of connector) k d within in
    let most : cell_step cut steps j ≤ m + 1 = omega (arith, close-cells net cut steps connector is.one.0 j lawful listed is.one.1 has, is.one.2) in
    let least : m ≤ cell_step cut steps j = is.least k d within in
    elim (cases_lt m (cell_step cut steps j)) [
      | inl past ↦ inr (omega (arith, most, past))
      | inr not_past ↦ inl (omega (arith, least, not_past))
    ]

pub step_flow : (net : Network) (rows : List Row) (k : ℕ) (flight : ℤ) → IsNetwork net → k < length net.connectors → FlightLaw net rows (connector_at net.connectors k) flight →
    IsStepFlow net rows (connector_at net.connectors k) flight
step_flow net rows k flight sound there law cut start steps m are is =
    let connector : Connector = connector_at net.connectors k in
    law (cell_step cut steps) m (stand_at net cut start steps rows sound are)
    (all-close net cut steps connector m are.reached.lawful (Contains-get_or net.connectors k (Link 0 0) there) is)

pub link_flow : (net : Network) (rows : List Row) (k : ℕ) (flight : ℤ) → IsNetwork net → k < length net.connectors → FlightAtOneStep net rows (connector_at net.connectors k) flight →
    LinkFlightLaw net rows (connector_at net.connectors k) flight → IsLinkFlow net rows (connector_at net.connectors k) flight
link_flow net rows k flight sound there still law cut start steps up down are is =
    let step : ℕ → ℕ = cell_step cut steps in
    let stand = stand_at net cut start steps rows sound are in
    let below = law step (step down) up down stand is in
    let above = law step (step up) up down stand is in (
      λ same. still step (step down) stand (subst (λ connector. All (λ i. step i ≡ step down) (cells_of connector)) (sym is) (both step up down same)),
      λ up_ahead. below.0 up_ahead refl,
      λ down_ahead. above.1 refl down_ahead,
    )
  where
    both : (step : ℕ → ℕ) (up down : ℕ) → step up ≡ step down → All (λ i. step i ≡ step down) (cells_of (Link up down))
    both step up down same = All-cons (λ i. step i ≡ step down) up (down ∷ []) same (All-cons (λ i. step i ≡ step down) down [] refl (All-nil (λ i. step i ≡ step down)))

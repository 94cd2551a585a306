-- What one connector takes from cells and brings to them.
use Rattle.std.specs.Prelude.{◌==◌, Bool, Option, slice_index, if◌then◌else◌}
use Rattle.std.specs.List.{sum_by}
use Rattle.std.proofs.Common.{◌≡◌, ℕ, zero, suc, ◌<◌, ◌≤◌, inl, inr, true, false, List, [], ◌∷◌, length, refl, sym, ap, ◌∙◌, arith}
use Rattle.std.proofs.lemmas.Bool.{cases_eq, eq-eqb, ne_eqb}
use Rattle.network_file.specs.Connectors.{cells_of}
use Rattle.network_file.specs.Numbered.{connector_at}
use Rattle.network_file.specs.Network.{Network}
use Rattle.network_file.specs.declared.connector.Connector.{Connector}
use Rattle.network_file.specs.declared.connector.Connector.TheVariants.{Link, Merge, Diverge}
use Rattle.flow_model.specs.Bounds.{AreHeldInBounds, IsHeldInBounds}
use Rattle.flow_model.specs.Flows.{flow_between, entering, flow_of, leaving}
use Rattle.flow_model.specs.declared.carried.Flow.{Flow}
use Rattle.region_body.specs.declared.cell_ref.CellRef.{CellRef}
use Rattle.region_body.specs.declared.cell_ref.CellRef.TheVariants.{Own, Halo}
use Rattle.cell_sweep.specs.declared.cell_state.CellState.{CellState}
use Rattle.step_plan.proofs.Sums.{sum_by-same}
use Rattle.region_cut.specs.ConnectorCells.{three_cells}
use Rattle.connector_flow.specs.Flows.{flow_at}
use Rattle.connector_flow.specs.Following.{rule_of}
use Rattle.connector_flow.specs.Limits.{sends_second}
use Rattle.region_body.specs.Carrying.{AreConnectorsAmong, CanCarry, IsConnectorAmong, brought, brought_by, carried_of, taken, taken_by, three_held}
use Rattle.region_body.specs.CellRefs.{AreRefsOf, IsRefOf, IsWithin, given_now, held_in, parts_at, ref_at}
use Rattle.region_body.proofs.SpeedsNow.{AreSpeedsNow, given-is}
use Rattle.region_body.proofs.Moves.{ArePartsOf, IsScene, in_by, out_by}
use Rattle.region_body.specs.Placed.{IsSeen}
use Rattle.region_body.specs.declared.followed_connector.FollowedConnector.{FollowedConnector}

-- so many parts of a cell are those at its place
part-at : (net : Network) (others : List FollowedConnector) (cells halo : List ℕ) (i p parts : ℕ) (cell : CellRef) → AreConnectorsAmong net cells halo others → p < length cells → IsRefOf cells halo i cell →
    parts_at cell parts p ≡ (if slice_index cells p == i then parts else 0)
part-at net others cells halo i p parts (Own own) apart within found = elim (cases_eq p own) [
  | inl same ↦
      let its : (slice_index cells p == i) ≡ true = eq-eqb (slice_index cells p) i (ap (slice_index cells) same ∙ found.is) in
      let here : (own == p) ≡ true = eq-eqb own p (sym same) in
      rw (its, here) refl
  | inr other ↦
      let away : (slice_index cells p == i) ≡ false = ne_eqb (slice_index cells p) i (λ equal.
      other (apart.distinct p own within found.within (equal ∙ sym found.is))) in
      let there_not : (own == p) ≡ false = ne_eqb own p (λ equal. other (sym equal)) in
      rw (away, there_not) refl
]
part-at net others cells halo i p parts (Halo j) apart within found =
    let away : (slice_index cells p == i) ≡ false = ne_eqb (slice_index cells p) i (λ equal. apart.apart p j within found.within (equal ∙ sym found.is)) in
    rw away refl

-- what a connector takes from a place it takes from its cell, and what it brings to it it brings to its cell
taken-from : (net : Network) (others : List FollowedConnector) (cells halo : List ℕ) (connector : Connector) (followed : FollowedConnector) (flow : Flow) (p : ℕ) → AreConnectorsAmong net cells halo others → p < length cells →
    AreRefsOf cells halo connector followed.cells → taken_by (rule_of connector) followed flow p ≡ leaving (slice_index cells p) connector flow
taken-from net others cells halo (Link up down) followed flow p apart within refs =
    let one = part-at net others cells halo up p flow.out1 (ref_at followed.cells 0) apart within (refs 0 (omega arith)) in omega arith
taken-from net others cells halo (Merge up1 up2 down p1 p2) followed flow p apart within refs =
    let one = part-at net others cells halo up1 p flow.out1 (ref_at followed.cells 0) apart within (refs 0 (omega arith)) in
    let two = part-at net others cells halo up2 p flow.out2 (ref_at followed.cells 1) apart within (refs 1 (omega arith)) in omega arith
taken-from net others cells halo (Diverge up down1 down2 b1 b2) followed flow p apart within refs =
    let one = part-at net others cells halo up p flow.out1 (ref_at followed.cells 0) apart within (refs 0 (omega arith)) in omega arith

brought-to : (net : Network) (others : List FollowedConnector) (cells halo : List ℕ) (connector : Connector) (followed : FollowedConnector) (flow : Flow) (p : ℕ) → AreConnectorsAmong net cells halo others → p < length cells →
    AreRefsOf cells halo connector followed.cells → brought_by (rule_of connector) followed flow p ≡ entering (slice_index cells p) connector flow
brought-to net others cells halo (Link up down) followed flow p apart within refs =
    let one = part-at net others cells halo down p flow.in1 (ref_at followed.cells 1) apart within (refs 1 (omega arith)) in omega arith
brought-to net others cells halo (Merge up1 up2 down p1 p2) followed flow p apart within refs =
    let one = part-at net others cells halo down p flow.in1 (ref_at followed.cells 2) apart within (refs 2 (omega arith)) in omega arith
brought-to net others cells halo (Diverge up down1 down2 b1 b2) followed flow p apart within refs =
    let one = part-at net others cells halo down1 p flow.in1 (ref_at followed.cells 1) apart within (refs 1 (omega arith)) in
    let two = part-at net others cells halo down2 p flow.in2 (ref_at followed.cells 2) apart within (refs 2 (omega arith)) in omega arith

-- what a connector carries is its flow where the cells hold n
held-seen : (n : ℕ → ℕ) (cells halo : List ℕ) (states : List CellState) (put : List (Option ℕ)) (i : ℕ) (cell : CellRef) → IsSeen n cells halo states put →
    IsRefOf cells halo i cell → held_in states put cell ≡ n i
held-seen n cells halo states put i (Own p) seen found = sym (seen.own p found.within) ∙ ap n found.is
held-seen n cells halo states put i (Halo j) seen found = sym (seen.around j found.within) ∙ ap n found.is

pub flow_between-three : (net : Network) (t : ℕ) (connector : Connector) (n : ℕ → ℕ) →
    flow_between net t connector (n (slice_index (three_cells connector) 0) ∷ n (slice_index (three_cells connector) 1) ∷ n (slice_index (three_cells connector) 2) ∷ []) ≡
    flow_of net t n connector
unfolding flow_of
flow_between-three net t (Link up down) n = refl
flow_between-three net t (Merge up1 up2 down p1 p2) n = refl
flow_between-three net t (Diverge up down1 down2 b1 b2) n = refl

-- so do its cells
cells-held : (net : Network) (t : ℕ) (n : ℕ → ℕ) (cells halo : List ℕ) (states : List CellState) (put : List (Option ℕ)) (followed : FollowedConnector) →
    IsSeen n cells halo states put → IsConnectorAmong net cells halo followed →
    flow_between net t (connector_at net.connectors followed.number) (three_held followed (held_in states put)) ≡ flow_of net t n (connector_at net.connectors followed.number)
cells-held net t n cells halo states put followed seen connected =
    let connector : Connector = connector_at net.connectors followed.number in
    let at : (m : ℕ) → m < 3 → held_in states put (ref_at followed.cells m) ≡ n (slice_index (three_cells connector) m) =
    λ m few. held-seen n cells halo states put (slice_index (three_cells connector) m) (ref_at followed.cells m) seen (connected.refs m few) in
    let a = at 0 (omega arith) in
    let b = at 1 (omega arith) in
    let c = at 2 (omega arith) in
    rw (a, b, c) (flow_between-three net t connector n)

-- it can carry it
is-within : (cells halo : List ℕ) (states : List CellState) (put : List (Option ℕ)) (i : ℕ) (cell : CellRef) → length states ≡ length cells → length put ≡ length halo →
    IsRefOf cells halo i cell → IsWithin (length states) put cell
is-within cells halo states put i (Own p) state_each put_each found = omega (arith, state_each, found.within)
is-within cells halo states put i (Halo j) state_each put_each found = omega (arith, put_each, found.within)

held-bounded : (net : Network) (t : ℕ) (cells halo : List ℕ) (others : List FollowedConnector) (states : List CellState) (put : List (Option ℕ)) (i : ℕ) (cell : CellRef) →
    IsScene net t cells halo others states put → IsRefOf cells halo i cell → IsHeldInBounds net t i (held_in states put cell)
held-bounded net t cells halo others states put i (Own p) scene found = rw found.is at (scene.own p found.within)
held-bounded net t cells halo others states put i (Halo j) scene found = rw found.is at (scene.around j found.within)

-- what the three cells of a connector hold is held in the bounds of each
pub three_in_bounds : (net : Network) (t : ℕ) (connector : Connector) (a b c : ℕ) → IsHeldInBounds net t (slice_index (three_cells connector) 0) a →
    IsHeldInBounds net t (slice_index (three_cells connector) 1) b → IsHeldInBounds net t (slice_index (three_cells connector) 2) c →
    AreHeldInBounds net t (cells_of connector) (a ∷ b ∷ c ∷ [])
three_in_bounds net t (Link up down) a b c first second third = record { each = at }
  where
    at : (j : ℕ) → j < 2 → IsHeldInBounds net t (slice_index (up ∷ down ∷ []) j) (slice_index (a ∷ b ∷ c ∷ []) j)
    at zero within = first
    at (suc zero) within = second
    at (suc (suc j)) within = absurd (omega arith)
three_in_bounds net t (Merge up1 up2 down p1 p2) a b c first second third = record { each = at }
  where
    at : (j : ℕ) → j < 3 → IsHeldInBounds net t (slice_index (up1 ∷ up2 ∷ down ∷ []) j) (slice_index (a ∷ b ∷ c ∷ []) j)
    at zero within = first
    at (suc zero) within = second
    at (suc (suc zero)) within = third
    at (suc (suc (suc j))) within = absurd (omega arith)
three_in_bounds net t (Diverge up down1 down2 b1 b2) a b c first second third = record { each = at }
  where
    at : (j : ℕ) → j < 3 → IsHeldInBounds net t (slice_index (up ∷ down1 ∷ down2 ∷ []) j) (slice_index (a ∷ b ∷ c ∷ []) j)
    at zero within = first
    at (suc zero) within = second
    at (suc (suc zero)) within = third
    at (suc (suc (suc j))) within = absurd (omega arith)

-- what it carries is its flow in the network
pub carried-is : (net : Network) (t : ℕ) (n : ℕ → ℕ) (cells halo : List ℕ) (others : List FollowedConnector) (states : List CellState) (speeds : List (ℕ × ℕ)) (put : List (Option ℕ)) (followed : FollowedConnector) →
    IsScene net t cells halo others states put → IsSeen n cells halo states put → AreSpeedsNow net t cells halo speeds → IsConnectorAmong net cells halo followed →
    carried_of t followed (given_now speeds states put) ≡ flow_of net t n (connector_at net.connectors followed.number)
carried-is net t n cells halo others states speeds put followed scene seen now connected =
    let connector : Connector = connector_at net.connectors followed.number in
    let at : (m : ℕ) → m < 3 → IsHeldInBounds net t (slice_index (three_cells connector) m) (held_in states put (ref_at followed.cells m)) =
    λ m few. held-bounded net t cells halo others states put (slice_index (three_cells connector) m) (ref_at followed.cells m) scene (connected.refs m few) in
    ap (flow_at followed.timeline t) (given-is net t cells halo states speeds put followed scene.state_each now connected)
    ∙ connected.timeline.flow t (three_held followed (held_in states put)) scene.before
    (three_in_bounds net t connector _ _ _ (at 0 (omega arith)) (at 1 (omega arith)) (at 2 (omega arith)))
    ∙ cells-held net t n cells halo states put followed seen connected

pub refs-there : (net : Network) (cells halo : List ℕ) (states : List CellState) (put : List (Option ℕ)) (followed : FollowedConnector) → length states ≡ length cells → length put ≡ length halo →
    IsConnectorAmong net cells halo followed → (m : ℕ) → m < 3 → IsWithin (length states) put (ref_at followed.cells m)
refs-there net cells halo states put followed state_each put_each connected m few =
    is-within cells halo states put (slice_index (three_cells (connector_at net.connectors followed.number)) m) (ref_at followed.cells m) state_each put_each (connected.refs m few)

pub can_carry : (net : Network) (t : ℕ) (cells halo : List ℕ) (others : List FollowedConnector) (states : List CellState) (put : List (Option ℕ)) (followed : FollowedConnector) →
    IsScene net t cells halo others states put → IsConnectorAmong net cells halo followed → followed.timeline.step ≤ t → t < followed.timeline.until → CanCarry t followed (length states) put
can_carry net t cells halo others states put followed scene connected step until =
    record {
      refs = refs-there net cells halo states put followed scene.state_each scene.put_each connected;
      step = step;
      until = until;
    }

pub three-as : (a b c first second third : ℕ) → a ≡ first → b ≡ second → c ≡ third → a ∷ b ∷ c ∷ [] ≡ first ∷ second ∷ third ∷ []
three-as a b c first second third one two three = rw (one, two, three) refl

carried-same : (t : ℕ) (given other : Bool → CellRef → ℕ) (followed : FollowedConnector) → ((sends : Bool) (cell : CellRef) → given sends cell ≡ other sends cell) → carried_of t followed given ≡ carried_of t followed other
carried-same t given other followed same =
    ap (flow_at followed.timeline t)
    (three-as _ _ _ _ _ _ (same true (ref_at followed.cells 0)) (same (sends_second followed.timeline.rule) (ref_at followed.cells 1)) (same false (ref_at followed.cells 2)))

-- what it moves is what it moves in the network
moves-as : (net : Network) (t : ℕ) (n : ℕ → ℕ) (cells halo : List ℕ) (others : List FollowedConnector) (states : List CellState) (speeds : List (ℕ × ℕ)) (put : List (Option ℕ)) (given : Bool → CellRef → ℕ) (p : ℕ) (followed : FollowedConnector) →
    IsScene net t cells halo others states put → IsSeen n cells halo states put → AreSpeedsNow net t cells halo speeds → ((sends : Bool) (cell : CellRef) → given sends cell ≡ given_now speeds states put sends cell) →
    p < length cells → IsConnectorAmong net cells halo followed →
    (taken t given p followed ≡ out_by net t n (slice_index cells p) followed.number) × (brought t given p followed ≡ in_by net t n (slice_index cells p) followed.number)
unfolding taken brought
moves-as net t n cells halo others states speeds put given p followed scene seen now same within connected =
    let connector : Connector = connector_at net.connectors followed.number in
    let flow : Flow = carried_of t followed given in
    let is : flow ≡ flow_of net t n connector =
    carried-same t given (given_now speeds states put) followed same ∙ carried-is net t n cells halo others states speeds put followed scene seen now connected in (
      ap (λ rule. taken_by rule followed flow p) connected.timeline.rule ∙ taken-from net others cells halo connector followed flow p scene.connected within connected.refs
          ∙ ap (leaving (slice_index cells p) connector) is,
      ap (λ rule. brought_by rule followed flow p) connected.timeline.rule ∙ brought-to net others cells halo connector followed flow p scene.connected within connected.refs
          ∙ ap (entering (slice_index cells p) connector) is,
    )

pub parts-are : (net : Network) (t : ℕ) (n : ℕ → ℕ) (cells halo : List ℕ) (others : List FollowedConnector) (states : List CellState) (speeds : List (ℕ × ℕ)) (put : List (Option ℕ)) (given : Bool → CellRef → ℕ) →
    IsScene net t cells halo others states put → IsSeen n cells halo states put → AreSpeedsNow net t cells halo speeds → ((sends : Bool) (cell : CellRef) → given sends cell ≡ given_now speeds states put sends cell) →
    ArePartsOf net t n cells others (λ p. sum_by (taken t given p) others) (λ p. sum_by (brought t given p) others)
parts-are net t n cells halo others states speeds put given scene seen now same = record {
  taken = λ p within.
      sum_by-same (IsConnectorAmong net cells halo) (taken t given p) (λ followed. out_by net t n (slice_index cells p) followed.number) others
      (λ followed connected. (moves-as net t n cells halo others states speeds put given p followed scene seen now same within connected).0) scene.connected.each;
  brought = λ p within.
      sum_by-same (IsConnectorAmong net cells halo) (brought t given p) (λ followed. in_by net t n (slice_index cells p) followed.number) others
      (λ followed connected. (moves-as net t n cells halo others states speeds put given p followed scene seen now same within connected).1) scene.connected.each;
}

-- The speeds at which a region's cells and those of its halo send in a step.
use Rattle.std.specs.Prelude.{Bool, Option, slice_index}
use Rattle.std.proofs.Common.{◌≡◌, ℕ, ◌+◌, ◌<◌, true, false, inl, inr, List, [], ◌∷◌, ◌++◌, length, sym, ap, refl, ◌∙◌, arith}
use Rattle.std.proofs.lemmas.Bool.{cases_Bool}
use Rattle.std.proofs.lemmas.List.{get_or-append-add, get_or_append_left, length-append}
use Rattle.step_plan.specs.Speeds.{arriving, speed_at}
use Rattle.step_plan.proofs.Laws.{arriving-own, speed_at-none}
use Rattle.network_file.specs.Connectors.{cells_of}
use Rattle.network_file.specs.Numbered.{connector_at}
use Rattle.network_file.specs.Network.{Network}
use Rattle.network_file.specs.declared.connector.Connector.{Connector}
use Rattle.network_file.specs.declared.connector.Connector.TheVariants.{Link, Merge, Diverge}
use Rattle.region_cut.specs.ConnectorCells.{three_cells}
use Rattle.cell_sweep.specs.CellStates.{cell_state_at}
use Rattle.cell_sweep.specs.Speeds.{is_slow, ratio_at}
use Rattle.cell_sweep.specs.declared.cell_state.CellState.{CellState}
use Rattle.connector_flow.specs.Following.{given_in, rule_of, sent_in}
use Rattle.connector_flow.specs.Limits.{sends_second}
use Rattle.region_body.specs.Carrying.{IsConnectorAmong, three_given, three_held}
use Rattle.region_body.specs.CellRefs.{IsRefOf, given_now, given_of, held_in, ref_at, speed_place}
use Rattle.region_body.specs.FollowedSpeeds.{AreSpeedsOf, cell_speed, is_listed}
use Rattle.region_body.specs.declared.cell_ref.CellRef.{CellRef}
use Rattle.region_body.specs.declared.cell_ref.CellRef.TheVariants.{Own, Halo}
use Rattle.region_body.specs.declared.followed_connector.FollowedConnector.{FollowedConnector}
use Rattle.region_body.specs.declared.followed_speed.FollowedSpeed.{FollowedSpeed}

-- each of these cells sends at its speed
speed-now : (net : Network) (cells : List ℕ) (timelines : List FollowedSpeed) (speeds : List (ℕ × ℕ)) (t until p : ℕ) → AreSpeedsOf net cells timelines speeds t until →
    t < until → p < length cells → ratio_at speeds p ≡ cell_speed net cells p t
speed-now net cells timelines speeds t until p are before within = elim (cases_Bool (is_listed timelines p)) [
  | inl listed ↦ are.in_force p listed t (omega arith) before
  | inr other ↦
      let free : is_slow net cells p ≡ false = elim (cases_Bool (is_slow net cells p)) [
        | inl slow ↦ absurd (cc (are.whole p within slow, other))
        | inr free ↦ free
      ] in
      are.others p other ∙ sym (speed_at-none net.plan (slice_index cells p) t free)
]

-- the region's own cells, and those of its halo
pub record AreSpeedsNow (net : Network) (t : ℕ) (cells halo : List ℕ) (speeds : List (ℕ × ℕ)) : Type 0 where
  pub own : (p : ℕ) → p < length cells → ratio_at speeds p ≡ speed_at net.plan (slice_index cells p) t
  pub around : (j : ℕ) → j < length halo → ratio_at speeds (length cells + j) ≡ speed_at net.plan (slice_index halo j) t

pub speeds-now : (net : Network) (cells halo : List ℕ) (timelines : List FollowedSpeed) (speeds : List (ℕ × ℕ)) (t until : ℕ) →
    AreSpeedsOf net (cells ++ halo) timelines speeds t until → t < until → AreSpeedsNow net t cells halo speeds
speeds-now net cells halo timelines speeds t until are before =
    let long = length-append cells halo in
    record {
      own = λ p within. speed-now net (cells ++ halo) timelines speeds t until p are before (omega (arith, within, long))
          ∙ ap (λ i. speed_at net.plan i t) (get_or_append_left cells halo 0 p within);
      around = λ j within. speed-now net (cells ++ halo) timelines speeds t until (length cells + j) are before (omega (arith, within, long))
          ∙ ap (λ i. speed_at net.plan i t) (get_or-append-add cells halo j 0);
    }

-- what is given to a connector of a cell is what the cell sends, or all that it holds
speed-of : (net : Network) (t : ℕ) (cells halo : List ℕ) (speeds : List (ℕ × ℕ)) (count i : ℕ) (cell : CellRef) → count ≡ length cells → AreSpeedsNow net t cells halo speeds →
    IsRefOf cells halo i cell → ratio_at speeds (speed_place count cell) ≡ speed_at net.plan i t
speed-of net t cells halo speeds count i (Own p) same now found = now.own p found.within ∙ ap (λ i. speed_at net.plan i t) found.is
speed-of net t cells halo speeds count i (Halo j) same now found =
    ap (λ n. ratio_at speeds (n + j)) same ∙ now.around j found.within ∙ ap (λ i. speed_at net.plan i t) found.is

given-one : (net : Network) (t : ℕ) (cells halo : List ℕ) (speeds : List (ℕ × ℕ)) (count i : ℕ) (held : CellRef → ℕ) (sends : Bool) (cell : CellRef) → count ≡ length cells →
    AreSpeedsNow net t cells halo speeds → IsRefOf cells halo i cell → given_of speeds count held sends cell ≡ sent_in net sends t i (held cell)
given-one net t cells halo speeds count i held true cell same now found =
    ap (λ speed. arriving speed (held cell)) (speed-of net t cells halo speeds count i cell same now found)
given-one net t cells halo speeds count i held false cell same now found = refl

first-cell : (connector : Connector) → slice_index (three_cells connector) 0 ≡ slice_index (cells_of connector) 0
first-cell (Link up down) = refl
first-cell (Merge up1 up2 down p1 p2) = refl
first-cell (Diverge up down1 down2 b1 b2) = refl

second-cell : (connector : Connector) → slice_index (three_cells connector) 1 ≡ slice_index (cells_of connector) 1
second-cell (Link up down) = refl
second-cell (Merge up1 up2 down p1 p2) = refl
second-cell (Diverge up down1 down2 b1 b2) = refl

three-same : (a b c first second : ℕ) → a ≡ first → b ≡ second → a ∷ b ∷ c ∷ [] ≡ first ∷ second ∷ c ∷ []
three-same a b c first second is also = rw (is, also) refl

-- so it is with its three cells
pub given-is : (net : Network) (t : ℕ) (cells halo : List ℕ) (states : List CellState) (speeds : List (ℕ × ℕ)) (put : List (Option ℕ)) (followed : FollowedConnector) →
    length states ≡ length cells → AreSpeedsNow net t cells halo speeds → IsConnectorAmong net cells halo followed →
    three_given followed (given_now speeds states put) ≡ given_in net t (connector_at net.connectors followed.number) (three_held followed (held_in states put))
given-is net t cells halo states speeds put followed same now connected =
    let connector : Connector = connector_at net.connectors followed.number in
    let held : CellRef → ℕ = held_in states put in
    let a : CellRef = ref_at followed.cells 0 in
    let b : CellRef = ref_at followed.cells 1 in
    three-same _ _ _ _ _
    (given-one net t cells halo speeds (length states) (slice_index (three_cells connector) 0) held true a same now (connected.refs 0 (omega arith))
    ∙ ap (λ i. sent_in net true t i (held a)) (first-cell connector))
    (ap (λ rule. given_now speeds states put (sends_second rule) b) connected.timeline.rule
    ∙ given-one net t cells halo speeds (length states) (slice_index (three_cells connector) 1) held (sends_second (rule_of connector)) b same now (connected.refs 1 (omega arith))
    ∙ ap (λ i. sent_in net (sends_second (rule_of connector)) t i (held b)) (second-cell connector))

-- where no speeds are kept all is given
given-all : (speeds : List (ℕ × ℕ)) (count : ℕ) (held : CellRef → ℕ) (sends : Bool) (cell : CellRef) → speeds ≡ [] → given_of speeds count held sends cell ≡ held cell
given-all speeds count held true cell none = rw none (arriving-own (held cell))
given-all speeds count held false cell none = refl

pub given-none : (followed : FollowedConnector) (speeds : List (ℕ × ℕ)) (count : ℕ) (held : CellRef → ℕ) → speeds ≡ [] →
    three_held followed held ≡ three_given followed (given_of speeds count held)
given-none followed speeds count held none =
    sym (three-same _ _ _ _ _ (given-all speeds count held true (ref_at followed.cells 0) none)
    (given-all speeds count held (sends_second followed.timeline.rule) (ref_at followed.cells 1) none))

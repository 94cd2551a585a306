-- A whole step of states is the step of their cells.
use Rattle.std.specs.Prelude.{All, Bool, Option, ◌==◌, map, min, slice_index, if◌then◌else◌}
use Rattle.std.proofs.lemmas.List.Elements.{Contains-get_or}
use Rattle.std.specs.List.{Contains, filter, range_with_len, sum_by}
use Rattle.std.proofs.Common.{◌≡◌, ℕ, ◌+◌, ◌-◌, ◌^◌, ◌<◌, ◌≤◌, inl, inr, true, false, List, ◌++◌, length, get_or, refl, sym, ap, ◌∙◌, subst, zero-add, arith}
use Rattle.std.proofs.lemmas.Bool.{cases_Bool, cases_eq, eq-eqb, ne_eqb}
use Rattle.std.proofs.lemmas.List.{ext_get_or, get_or-map, get_or_append_left, length-append, length-map}
use Rattle.std.proofs.lemmas.List.FromFn.{get_or-map-range_with_len, length-map-range_with_len}
use Rattle.step_plan.specs.Capacity.{capacity_at}
use Rattle.step_plan.specs.Demand.{demand_at}
use Rattle.step_plan.specs.Speeds.{arriving, speed_at}
use Rattle.step_plan.specs.SpeedBounds.{has_speeds}
use Rattle.step_plan.proofs.Sums.{sum_by-filter, sum_by_agree, sum_by_range_one}
use Rattle.network_file.specs.Cells.{is_gate_at}
use Rattle.network_file.specs.Network.{Network}
use Rattle.network_file.specs.Sound.{IsNetwork}
use Rattle.network_file.proofs.PlanFacts.{has_speeds-road}
use Rattle.flow_model.specs.Bounds.{IsHeldInBounds, IsRowInBounds}
use Rattle.flow_model.specs.Flows.{inflow, outflow}
use Rattle.flow_model.specs.Limits.{room_at}
use Rattle.flow_model.specs.Rows.{empty_row, moved_row, next_row}
use Rattle.flow_model.specs.State.{row_at}
use Rattle.flow_model.specs.Stepping.{rows_after}
use Rattle.flow_model.specs.declared.row.Row.{Row}
use Rattle.flow_model.proofs.Bounds.{IsChange, IsSmall, changes, held-le, moved_row-in_bounds, small}
use Rattle.flow_model.proofs.CellKinds.{road_at-alone}
use Rattle.flow_model.proofs.CellLimits.{capacity_at-le}
use Rattle.flow_model.proofs.Flows.{inflow-gate}
use Rattle.cell_sweep.specs.CellStates.{AreSound, link_in, link_out, moved, cell_state_at}
use Rattle.connector_flow.specs.Space.{HasSpace, IsSpaceOf}
use Rattle.connector_flow.proofs.Spaces.{has-space}
use Rattle.cell_sweep.specs.declared.cell_state.CellState.{CellState}
use Rattle.region_body.proofs.LinkFlows.{held-fits}
use Rattle.region_body.specs.Chains.{AreAround, most_out, odd_ones}
use Rattle.region_body.specs.Placed.{ArePlaced, AreStatesInBounds, CanAdvance, IsSeen, PlacedCells}
use Rattle.region_body.specs.FollowedLinks.{AreFollowed}
use Rattle.region_body.specs.declared.followed_link.FollowedLink.{FollowedLink}
use Rattle.region_cut.proofs.Ranges.{Contains-filter_range}
use Rattle.region_body.proofs.Moves.{ArePartsOf, IsScene, demand_for, in_by, out_by}
use Rattle.cell_sweep.specs.Speeds.{CanSweep, is_slow}
use Rattle.region_body.specs.Rows.{AreSettled, IsOf, constants_at, row_of, rows_of}
use Rattle.region_body.specs.declared.cell_constants.CellConstants.{CellConstants}
use Rattle.region_body.specs.declared.followed_connector.FollowedConnector.{FollowedConnector}
use Rattle.region_body.proofs.Flowing.{HaveStates, in-gate, in-total, odd_sum, out-total}
use Rattle.region_body.proofs.Renewed.{AreKept, AreRenewed, IsFresh, Renewal, sending, speed-free, speeds-later}
use Rattle.region_body.proofs.Stepping.{row-stepped, stepped-is_of}
use Rattle.region_body.proofs.FollowedConnectors.{come-followed, connected-followed, numbers-followed}
use Rattle.region_body.proofs.Gates.{demands-asked, demands-into, gates-asked}
use Rattle.region_body.proofs.SameMaps.{sum_by-map}
use Rattle.region_body.specs.Carrying.{AreConnectorsFollowed}
use Rattle.region_body.specs.Pausing.{IsPauseOf}
use Rattle.region_body.specs.declared.pause.Pause.{Pause}
use Rattle.region_body.specs.Gates.{AreAsked, demand_into}
use Rattle.region_body.specs.declared.gate.GatePlace.{GatePlace}

-- the rows of states, one by one
pub row_at-rows_of : (constants : List CellConstants) (states : List CellState) (p : ℕ) → p < length constants →
    row_at (rows_of constants states) p ≡ row_of (constants_at constants p) (cell_state_at states p)
unfolding rows_of
row_at-rows_of constants states p within =
    get_or-map-range_with_len (λ p. row_of (constants_at constants p) (cell_state_at states p)) 0 (length constants) p p empty_row within (zero-add p)

pub length-rows_of : (constants : List CellConstants) (states : List CellState) → length (rows_of constants states) ≡ length constants
unfolding rows_of
length-rows_of constants states = length-map-range_with_len (λ p. row_of (constants_at constants p) (cell_state_at states p)) 0 (length constants)

-- the demand of the gate at place p, and none where it is no gate's
demand-sum : (net : Network) (t : ℕ) (cells : List ℕ) (p : ℕ) → p < length cells →
    sum_by (demand_for net.plan t cells p) (filter (λ q. is_gate_at net.cells (slice_index cells q)) (range_with_len 0 (length cells))) ≡
    (if is_gate_at net.cells (slice_index cells p) then demand_at net.plan (slice_index cells p) t else 0)
demand-sum net t cells p within =
    let gate : ℕ → Bool = λ q. is_gate_at net.cells (slice_index cells q) in
    let own : ℕ = if gate p then demand_at net.plan (slice_index cells p) t else 0 in
    sum_by-filter (demand_for net.plan t cells p) gate (range_with_len 0 (length cells))
    ∙ sum_by_agree (λ q. if gate q then demand_for net.plan t cells p q else 0) (λ q. if p == q then own else 0) (range_with_len 0 (length cells))
    (λ q. elim (cases_eq p q) [
      | inl same ↦
          let here : (p == q) ≡ true = eq-eqb p q same in
          let there : (q == p) ≡ true = eq-eqb q p (sym same) in
          rw (here, there, same) refl
      | inr other ↦
          let here : (p == q) ≡ false = ne_eqb p q other in
          let there : (q == p) ≡ false = ne_eqb q p (λ equal. other (sym equal)) in
          rw (here, there) (none (gate q) 0)
    ])
    ∙ sum_by_range_one own p 0 (length cells) (omega arith) (omega arith)
  where
    none : (b : Bool) (x : ℕ) → (if b then x else x) ≡ x
    none true x = refl
    none false x = refl

-- what enters a cell in all and what leaves it

pub record IsMoved (net : Network) (t : ℕ) (n : ℕ → ℕ) (cells : List ℕ) (states : List CellState) (outs ins : ℕ → ℕ) : Type 0 where
  pub leaves : (p : ℕ) → p < length cells → link_out states p + outs p ≡ outflow net t n (slice_index cells p)
  pub enters : (p : ℕ) → p < length cells → link_in states p + ins p ≡ inflow net t n (slice_index cells p)

pub moves-of : (net : Network) (t : ℕ) (n : ℕ → ℕ) (cells connectors : List ℕ) (others : List FollowedConnector) (states : List CellState) (outs carried ins : ℕ → ℕ) →
    IsNetwork net → AreAround net cells connectors → HaveStates net t n cells connectors states →
    map (λ followed. followed.number) others ≡ odd_ones net cells connectors → ArePartsOf net t n cells others outs carried →
    ((p : ℕ) → ins p ≡ carried p +
    sum_by (demand_for net.plan t cells p) (filter (λ q. is_gate_at net.cells (slice_index cells q)) (range_with_len 0 (length cells)))) →
    IsMoved net t n cells states outs ins
moves-of net t n cells connectors others states outs carried ins sound around has numbers parts demands = record {
  leaves = λ p within.
      let i : ℕ = slice_index cells p in
      let sum : outs p ≡ odd_sum net cells connectors (out_by net t n i) =
      parts.taken p within ∙ sum_by-map (out_by net t n i) (λ followed. followed.number) others ∙ ap (sum_by (out_by net t n i)) numbers in
      ap (λ x. link_out states p + x) sum ∙ out-total net t n cells connectors states p sound around has within;
  enters = λ p within.
      let i : ℕ = slice_index cells p in
      let sum : carried p ≡ odd_sum net cells connectors (in_by net t n i) =
      parts.brought p within ∙ sum_by-map (in_by net t n i) (λ followed. followed.number) others ∙ ap (sum_by (in_by net t n i)) numbers in
      let demand = demand-sum net t cells p within in
      let all = demands p in
      elim (cases_Bool (is_gate_at net.cells i)) [
        | inl gate ↦
            let none = in-gate net t n cells connectors states p sound around has within gate in
            let brings : (if is_gate_at net.cells i then demand_at net.plan i t else 0) ≡ demand_at net.plan i t =
            ap (λ b. if b then demand_at net.plan i t else 0) gate in
            let whole = inflow-gate net t i n gate in
            let first = none.0 in
            let second = none.1 in
            omega arith
        | inr other ↦
            let brings : (if is_gate_at net.cells i then demand_at net.plan i t else 0) ≡ 0 =
            ap (λ b. if b then demand_at net.plan i t else 0) other in
            let whole = in-total net t n cells connectors states p sound around has within other in
            omega arith
      ];
}

-- what holds of one cell as a step begins
pub record IsReady (net : Network) (t : ℕ) (n : ℕ → ℕ) (i : ℕ) (constants : CellConstants) (state : CellState) : Type 0 where
  pub there : i < length net.cells
  pub held : n i ≡ state.n
  pub is_of : IsOf net i constants state
  pub row : IsRowInBounds net t i (row_of constants state)
  pub small : IsSmall (row_of constants state)
  pub change : IsChange net t i state.n (inflow net t n i) (outflow net t n i)
  pub next : IsRowInBounds net (t + 1) i (moved_row net i (row_of constants state) (inflow net t n i) (outflow net t n i))
  pub after : IsSmall (moved_row net i (row_of constants state) (inflow net t n i) (outflow net t n i))

pub ready : (net : Network) (t : ℕ) (n : ℕ → ℕ) (cells halo connectors : List ℕ) (placed : PlacedCells) (put : List (Option ℕ)) (p : ℕ) →
    IsNetwork net → t < net.steps → ArePlaced net cells halo connectors t placed → AreStatesInBounds net cells halo t placed put →
    IsSeen n cells halo placed.states put → p < length cells →
    IsReady net t n (slice_index cells p) (constants_at placed.constants p) (cell_state_at placed.states p)
ready net t n cells halo connectors placed put p sound before has bounds seen within =
    let i : ℕ = slice_index cells p in
    let constants : CellConstants = constants_at placed.constants p in
    let state : CellState = cell_state_at placed.states p in
    let there : i < length net.cells = has.around.there p 0 within in
    let held : n i ≡ state.n = seen.own p within in
    let row : IsRowInBounds net t i (row_of constants state) =
    subst (IsRowInBounds net t i) (row_at-rows_of placed.constants placed.states p (omega (arith, has.constants_each))) (bounds.own p within) in
    let change : IsChange net t i state.n (inflow net t n i) (outflow net t n i) =
    subst (λ x. IsChange net t i x (inflow net t n i) (outflow net t n i)) held
    (changes net t i n (inflow net t n i) (outflow net t n i) sound there (λ gate. inflow-gate net t i n gate) (omega arith) (omega arith)) in
    let next : IsRowInBounds net (t + 1) i (moved_row net i (row_of constants state) (inflow net t n i) (outflow net t n i)) =
    moved_row-in_bounds net t i (row_of constants state) (inflow net t n i) (outflow net t n i) sound before there row change in
    record {
      there = there;
      held = held;
      is_of = has.own p within;
      row = row;
      small = small net t i (row_of constants state) sound (omega (arith, before)) there row;
      change = change;
      next = next;
      after = small net (t + 1) i (moved_row net i (row_of constants state) (inflow net t n i) (outflow net t n i)) sound (omega (arith, before)) there next;
    }

-- the sum of what a road or a gate held fits
pub held-sum : (net : Network) (t : ℕ) (n : ℕ → ℕ) (i : ℕ) (constants : CellConstants) (state : CellState) → IsReady net t n i constants state →
    constants.is_exit ≡ false → state.held + state.n < 2 ^ 64
held-sum net t n i constants state is other =
    let wait : (if constants.is_exit then 0 else state.held - state.gone) ≡ state.held - state.gone =
    ap (λ b. if b then 0 else state.held - state.gone) other in
    let sum = is.small.wait in
    let gone = is.small.gone in
    let now = is.small.n in
    let begun = is.is_of.sums other in
    omega arith

-- the states of cells in bounds, once each has the most of its link
pub have-states : (net : Network) (t : ℕ) (n : ℕ → ℕ) (cells halo connectors : List ℕ) (placed : PlacedCells) (states : List CellState) (put : List (Option ℕ)) →
    IsNetwork net → t < net.steps → ArePlaced net cells halo connectors t placed → AreStatesInBounds net cells halo t placed put →
    IsSeen n cells halo placed.states put → AreRenewed net cells connectors t placed states →
    HaveStates net t n cells connectors states
have-states net t n cells halo connectors placed states put sound before has bounds seen renewed =
    let each = λ (p : ℕ) (within : p < length cells). renewed.only_most p (omega (arith, has.one_each)) in
    record {
      one_each = renewed.long ∙ has.one_each;
      held = λ p within. ap (λ state. state.n) (each p within) ∙ sym (seen.own p within);
      space = λ p within.
          subst (λ space. IsSpaceOf space (room_at net.cells (slice_index cells p))) (sym (ap (λ state. state.space) (each p within))) (has.space p within);
      fits = λ p within.
          let i : ℕ = slice_index cells p in
          let is = ready net t n cells halo connectors placed put p sound before has bounds seen within in
          let capacity = capacity_at-le net t i sound is.there in
          subst (λ x. HasSpace x (capacity_at net.plan i t) (room_at net.cells i)) (sym (ap (λ state. state.n) (each p within)))
          (has-space net t i (cell_state_at placed.states p).n (capacity_at net.plan i t) sound (omega (arith, before)) is.there is.row.held capacity);
      sends = λ p within.
          ap (min (cell_state_at states p).most) (ap (λ state. state.n) (each p within)) ∙ renewed.sends p (omega (arith, has.one_each))
          ∙ ap (λ x. min (most_out net cells connectors p t) (arriving (speed_at net.plan (slice_index cells p) t) x)) (sym (seen.own p within));
    }

-- each can hold what it holds, and what it holds may go
pub sound-fresh : (net : Network) (t : ℕ) (n : ℕ → ℕ) (cells halo connectors : List ℕ) (placed : PlacedCells) (states : List CellState) (put : List (Option ℕ)) →
    IsNetwork net → t < net.steps → ArePlaced net cells halo connectors t placed → AreStatesInBounds net cells halo t placed put →
    IsSeen n cells halo placed.states put → AreRenewed net cells connectors t placed states →
    AreSound states
sound-fresh net t n cells halo connectors placed states put sound before has bounds seen renewed =
    let same : length states ≡ length cells = renewed.long ∙ has.one_each in
    let placing = have-states net t n cells halo connectors placed states put sound before has bounds seen renewed in
    let own = λ (p : ℕ) (within : p < length states). ready net t n cells halo connectors placed put p sound before has bounds seen (omega arith) in
    let each = λ (p : ℕ) (within : p < length states). renewed.only_most p (omega (arith, within, renewed.long)) in
    record {
      room = λ p within.
          let i : ℕ = slice_index cells p in
          held-fits (cell_state_at states p).n (capacity_at net.plan i t) (cell_state_at states p).space (room_at net.cells i) (placing.space p (omega arith)) (placing.fits p (omega arith));
      gone = λ p within.
          let is = own p within in
          let n_is = ap (λ state. state.n) (each p within) in
          let gone_is = ap (λ state. state.gone) (each p within) in
          let few = is.small.n in
          let gone = is.small.gone in
          omega arith;
    }

-- so they can be swept, by their speeds and zones
pub can-sweep : (net : Network) (t : ℕ) (n : ℕ → ℕ) (cells halo connectors : List ℕ) (placed : PlacedCells) (put : List (Option ℕ)) (new : Renewal) →
    IsNetwork net → t < net.steps → ArePlaced net cells halo connectors t placed → AreStatesInBounds net cells halo t placed put →
    IsSeen n cells halo placed.states put → IsFresh net cells halo connectors t placed new → CanSweep new.states new.speeds placed.zones
can-sweep net t n cells halo connectors placed put new sound before has bounds seen now =
    let same : length new.states ≡ length cells = now.kept.long ∙ has.one_each in
    record {
      slow = is_slow net cells;
      laid = rw same has.zones;
      free = λ p within free. speed-free net (cells ++ halo) new.timelines new.speeds t new.until p now.speeds
          (ap (has_speeds net.plan) (get_or_append_left cells halo 0 p (omega (arith, within, same))) ∙ free);
      known = λ some. omega (arith, now.speeds.known some, length-append cells halo, same);
      few = λ p within slow.
          let i : ℕ = slice_index cells p in
          let is = ready net t n cells halo connectors placed put p sound before has bounds seen (omega (arith, within, same)) in
          let n_is = ap (λ state. state.n) (now.kept.only_most p (omega (arith, within, now.kept.long))) in
          let sends = (road_at-alone net.cells i (has_speeds-road net i sound is.there slow)).1 in
          omega (arith, n_is, held-le net t i (cell_state_at placed.states p).n sound is.there sends is.row.held);
    }

-- so much leaves each in a step and enters it: it holds so much, and no sum is too large
pub record CanStep (states sends : List CellState) (outs ins : ℕ → ℕ) : Type 0 where
  pub held : (p : ℕ) → p < length states → link_out sends p + outs p ≤ (cell_state_at states p).n
  pub gone : (p : ℕ) → p < length states → (cell_state_at states p).gone + (link_out sends p + outs p) < 2 ^ 64
  pub fits : (p : ℕ) → p < length states → (cell_state_at states p).n + (link_in sends p + ins p) < 2 ^ 64

pub can_step : (net : Network) (t : ℕ) (n : ℕ → ℕ) (cells halo connectors : List ℕ) (placed : PlacedCells) (states sends : List CellState) (put : List (Option ℕ)) (outs ins : ℕ → ℕ) →
    IsNetwork net → t < net.steps → ArePlaced net cells halo connectors t placed → AreStatesInBounds net cells halo t placed put →
    IsSeen n cells halo placed.states put → AreKept placed states →
    IsMoved net t n cells sends outs ins →
    CanStep states sends outs ins
can_step net t n cells halo connectors placed states sends put outs ins sound before has bounds seen kept moves =
    let same : length states ≡ length cells = kept.long ∙ has.one_each in
    let own = λ (p : ℕ) (within : p < length states). ready net t n cells halo connectors placed put p sound before has bounds seen (omega arith) in
    let each = λ (p : ℕ) (within : p < length states). kept.only_most p (omega (arith, within, kept.long)) in
    record {
      held = λ p within.
          let is = own p within in
          let n_is = ap (λ state. state.n) (each p within) in
          let leaves = moves.leaves p (omega arith) in
          let held = is.change.held in
          omega arith;
      gone = λ p within.
          let is = own p within in
          let gone_is = ap (λ state. state.gone) (each p within) in
          let leaves = moves.leaves p (omega arith) in
          let sent = is.change.sent in
          let gone = is.small.gone in
          omega arith;
      fits = λ p within.
          let is = own p within in
          let n_is = ap (λ state. state.n) (each p within) in
          let enters = moves.enters p (omega arith) in
          let held = is.change.held in
          let sent = is.change.sent in
          let after = is.after.n in
          omega arith;
    }

-- and come to the rows of the cells' step
pub row-after : (net : Network) (t : ℕ) (n : ℕ → ℕ) (i : ℕ) (constants : CellConstants) (state fresh after : CellState) (most enters leaves : ℕ) →
    IsReady net t n i constants state → fresh ≡ record state { most = most } → after ≡ moved fresh enters leaves →
    enters ≡ inflow net t n i → leaves ≡ outflow net t n i →
    (row_of constants after ≡ next_row net t n i (row_of constants state)) × IsOf net i constants after
unfolding next_row
row-after net t n i constants state fresh after most enters leaves is fresh_is after_is came went =
    let fits = held-sum net t n i constants state is in
    let row = row-stepped net t i constants state (inflow net t n i) (outflow net t n i) is.is_of is.change fits in
    let of_cell = stepped-is_of net t i constants state (inflow net t n i) (outflow net t n i) is.is_of is.change fits in
    rw (after_is, fresh_is, came, went) (row, record { first = of_cell.first; exit = of_cell.exit; began = of_cell.began; sums = of_cell.sums })

pub length-rows_after : (net : Network) (t : ℕ) (n : ℕ → ℕ) (cells : List ℕ) (rows : List Row) → length (rows_after net t n cells rows) ≡ length cells
unfolding rows_after
length-rows_after net t n cells rows = length-map-range_with_len (λ p. next_row net t n (slice_index cells p) (row_at rows p)) 0 (length cells)

pub row_at-rows_after : (net : Network) (t : ℕ) (n : ℕ → ℕ) (cells : List ℕ) (rows : List Row) (p : ℕ) → p < length cells →
    row_at (rows_after net t n cells rows) p ≡ next_row net t n (slice_index cells p) (row_at rows p)
unfolding rows_after
row_at-rows_after net t n cells rows p within =
    get_or-map-range_with_len (λ p. next_row net t n (slice_index cells p) (row_at rows p)) 0 (length cells) p p empty_row within (zero-add p)

-- what leaves and enters in the step: what the other connectors carry, and what the gates demand besides
pub record AreBrought (net : Network) (cells : List ℕ) (t : ℕ) (n : ℕ → ℕ) (placed : PlacedCells) (outs carried ins : ℕ → ℕ) : Type 0 where
  pub parts : ArePartsOf net t n cells placed.connectors outs carried
  pub demands : (p : ℕ) → ins p ≡ carried p + sum_by (demand_into t p) placed.gates

-- the parts of a step, one after the other
pub record AreSteps (net : Network) (cells halo connectors : List ℕ) (t : ℕ) (n : ℕ → ℕ) (placed : PlacedCells) (new : Renewal)
    (outs carried ins : ℕ → ℕ) (after : List CellState) : Type 0 where
  pub now : IsFresh net cells halo connectors t placed new
  pub brought : AreBrought net cells t n placed outs carried ins
  pub long_after : length after ≡ length new.states
  pub stepped_each : (p : ℕ) → p < length new.states →
      cell_state_at after p ≡ moved (cell_state_at new.states p) (link_in (sending new) p + ins p) (link_out (sending new) p + outs p)

-- what is seen of the states stays so when their most is written
pub seen-fresh : (net : Network) (t : ℕ) (n : ℕ → ℕ) (cells halo connectors : List ℕ) (placed : PlacedCells) (fresh : List CellState) (put : List (Option ℕ)) →
    ArePlaced net cells halo connectors t placed → IsSeen n cells halo placed.states put → AreKept placed fresh →
    IsSeen n cells halo fresh put
seen-fresh net t n cells halo connectors placed fresh put has seen renewed = record {
  own = λ p within. seen.own p within ∙ sym (ap (λ state. state.n) (renewed.only_most p (omega (arith, has.one_each))));
  around = seen.around;
}

-- the scene of the other connectors
pub scene-fresh : (net : Network) (t : ℕ) (n : ℕ → ℕ) (cells halo connectors : List ℕ) (placed : PlacedCells) (fresh : List CellState) (put : List (Option ℕ)) →
    IsNetwork net → t < net.steps → ArePlaced net cells halo connectors t placed → AreStatesInBounds net cells halo t placed put →
    IsSeen n cells halo placed.states put → AreKept placed fresh →
    IsScene net t cells halo placed.connectors fresh put
scene-fresh net t n cells halo connectors placed fresh put sound before has bounds seen renewed = record {
  sound = sound;
  before = before;
  connected = has.connected;
  state_each = renewed.long ∙ has.one_each;
  put_each = bounds.put_each;
  own = λ p within.
      let is = ready net t n cells halo connectors placed put p sound before has bounds seen within in
      subst (IsHeldInBounds net t (slice_index cells p)) (sym (ap (λ state. state.n) (renewed.only_most p (omega (arith, has.one_each))))) is.row.held;
  around = bounds.around;
}

-- so it is with the connectors once they are followed
pub scene-followed : (net : Network) (t : ℕ) (cells halo : List ℕ) (old new : List FollowedConnector) (states : List CellState) (put : List (Option ℕ)) →
    IsScene net t cells halo old states put → AreConnectorsFollowed t old new → IsScene net t cells halo new states put
scene-followed net t cells halo old new states put scene followed = record {
  sound = scene.sound;
  before = scene.before;
  connected = connected-followed net cells halo t old new scene.connected followed;
  state_each = scene.state_each;
  put_each = scene.put_each;
  own = scene.own;
  around = scene.around;
}

-- and what they take and bring is that of the connectors as they were
pub parts-followed : (net : Network) (t : ℕ) (n : ℕ → ℕ) (cells : List ℕ) (old new : List FollowedConnector) (outs ins : ℕ → ℕ) → AreConnectorsFollowed t old new →
    ArePartsOf net t n cells new outs ins → ArePartsOf net t n cells old outs ins
parts-followed net t n cells old new outs ins followed parts =
    let same : (f : ℕ → ℕ) → sum_by (λ followed. f followed.number) new ≡ sum_by (λ followed. f followed.number) old =
    λ f. sum_by-map f (λ (followed : FollowedConnector). followed.number) new ∙ ap (sum_by f) (numbers-followed t old new followed) ∙ sym (sum_by-map f (λ (followed : FollowedConnector). followed.number) old) in
    record {
      taken = λ p within. parts.taken p within ∙ same (out_by net t n (slice_index cells p));
      brought = λ p within. parts.brought p within ∙ same (in_by net t n (slice_index cells p));
    }

-- the gates' places are there
pub gates-there : (net : Network) (cells halo connectors : List ℕ) (t : ℕ) (placed : PlacedCells) → ArePlaced net cells halo connectors t placed →
    All (λ gate. gate.place < length cells) placed.gates
gates-there net cells halo connectors t placed has = λ k d within.
    let places : List ℕ = map (λ gate. gate.place) placed.gates in
    let listed : Contains places (get_or places k 0) = Contains-get_or places k 0 (omega (arith, length-map placed.gates (λ (gate : GatePlace). gate.place))) in
    let there = (Contains-filter_range (λ p. is_gate_at net.cells (slice_index cells p)) (length cells) (get_or places k 0)
    (subst (λ list. Contains list (get_or places k 0)) has.gates listed)).0 in
    rw (get_or-map (λ (gate : GatePlace). gate.place) placed.gates k d 0 within) at there

pub steps-moved : (net : Network) (cells halo connectors : List ℕ) (t : ℕ) (n : ℕ → ℕ) (placed : PlacedCells) (fresh : List CellState)
    (outs carried ins : ℕ → ℕ) (put : List (Option ℕ)) →
    IsNetwork net → t < net.steps → ArePlaced net cells halo connectors t placed → AreStatesInBounds net cells halo t placed put →
    IsSeen n cells halo placed.states put → AreRenewed net cells connectors t placed fresh →
    ArePartsOf net t n cells placed.connectors outs carried →
    ((p : ℕ) → ins p ≡ carried p + sum_by (demand_into t p) placed.gates) →
    IsMoved net t n cells fresh outs ins
steps-moved net cells halo connectors t n placed fresh outs carried ins put sound before has bounds seen renewed parts demands =
    moves-of net t n cells connectors placed.connectors fresh outs carried ins sound has.around
    (have-states net t n cells halo connectors placed fresh put sound before has bounds seen renewed) has.numbers parts
    (λ p.
    demands p
    ∙ ap (λ x. carried p + x) (demands-into net t cells p placed.gates has.demands ∙ ap (sum_by (demand_for net.plan t cells p)) has.gates))

-- each cell after the step
pub cell-after : (net : Network) (cells halo connectors : List ℕ) (t : ℕ) (n : ℕ → ℕ) (placed : PlacedCells) (new : Renewal) (outs carried ins : ℕ → ℕ) (after : List CellState) (put : List (Option ℕ)) (p : ℕ) →
    IsNetwork net → t < net.steps → ArePlaced net cells halo connectors t placed → AreStatesInBounds net cells halo t placed put →
    IsSeen n cells halo placed.states put → AreSteps net cells halo connectors t n placed new outs carried ins after → p < length cells →
    (row_of (constants_at placed.constants p) (cell_state_at after p) ≡
    next_row net t n (slice_index cells p) (row_of (constants_at placed.constants p) (cell_state_at placed.states p))) ×
    IsOf net (slice_index cells p) (constants_at placed.constants p) (cell_state_at after p)
cell-after net cells halo connectors t n placed new outs carried ins after put p sound before has bounds seen steps within =
    let here : p < length placed.states = omega (arith, has.one_each) in
    let there : p < length new.states = omega (arith, steps.now.kept.long) in
    let moves = steps-moved net cells halo connectors t n placed (sending new) outs carried ins put sound before has bounds seen steps.now.renewed steps.brought.parts steps.brought.demands in
    row-after net t n (slice_index cells p) (constants_at placed.constants p) (cell_state_at placed.states p) (cell_state_at new.states p) (cell_state_at after p)
    (cell_state_at new.states p).most (link_in (sending new) p + ins p) (link_out (sending new) p + outs p)
    (ready net t n cells halo connectors placed put p sound before has bounds seen within) (steps.now.kept.only_most p here) (steps.stepped_each p there)
    (moves.enters p within) (moves.leaves p within)

-- the rows after the step
pub rows-after : (net : Network) (cells halo connectors : List ℕ) (t : ℕ) (n : ℕ → ℕ) (placed : PlacedCells) (new : Renewal) (outs carried ins : ℕ → ℕ) (after : List CellState) (put : List (Option ℕ)) →
    IsNetwork net → t < net.steps → ArePlaced net cells halo connectors t placed → AreStatesInBounds net cells halo t placed put →
    IsSeen n cells halo placed.states put → AreSteps net cells halo connectors t n placed new outs carried ins after →
    rows_of placed.constants after ≡ rows_after net t n cells (rows_of placed.constants placed.states)
rows-after net cells halo connectors t n placed new outs carried ins after put sound before has bounds seen steps =
    ext_get_or empty_row (rows_of placed.constants after) (rows_after net t n cells (rows_of placed.constants placed.states))
    (length-rows_of placed.constants after ∙ has.constants_each ∙ sym (length-rows_after net t n cells (rows_of placed.constants placed.states)))
    (λ p lt.
    let inside : p < length placed.constants = omega (arith, length-rows_of placed.constants after) in
    let within : p < length cells = omega (arith, has.constants_each) in
    row_at-rows_of placed.constants after p inside
    ∙ (cell-after net cells halo connectors t n placed new outs carried ins after put p sound before has bounds seen steps within).0
    ∙ sym (row_at-rows_after net t n cells (rows_of placed.constants placed.states) p within
    ∙ ap (next_row net t n (slice_index cells p)) (row_at-rows_of placed.constants placed.states p inside)))

-- the links follow on

follows-later : (most : ℕ → ℕ → ℕ) (fresh after : List CellState) (links : List FollowedLink) (t : ℕ) → length after ≡ length fresh →
    ((p : ℕ) → p < length fresh → (cell_state_at after p).most ≡ (cell_state_at fresh p).most) → AreFollowed most fresh links t → AreFollowed most after links (t + 1)
follows-later most fresh after links t long same followed = record {
  timelines = followed.timelines;
  each = λ p within.
      let here : p < length fresh = omega arith in
      let is = same p here in
      elim (followed.each p here) [
        | inl constant ↦ inl (λ s from. is ∙ constant s (omega arith))
        | inr (m, has) ↦ inr (
          m,
          record {
            there = has.there;
            its = has.its;
            steady = λ d s from before. is ∙ has.steady d s (omega arith) before;
          },
        )
      ];
}

pub placed-after : (net : Network) (cells halo connectors : List ℕ) (t : ℕ) (n : ℕ → ℕ) (placed : PlacedCells) (new : Renewal) (outs carried ins : ℕ → ℕ) (after : List CellState) (before_list : List ℕ) (others : List FollowedConnector) (until : ℕ) (gates : List GatePlace) (pause : Pause) (seen_list : List (Option ℕ)) (put : List (Option ℕ)) →
    IsNetwork net → t < net.steps → ArePlaced net cells halo connectors t placed → AreStatesInBounds net cells halo t placed put →
    IsSeen n cells halo placed.states put → AreSteps net cells halo connectors t n placed new outs carried ins after →
    length before_list ≡ length placed.before → AreConnectorsFollowed t placed.connectors others → All (λ followed. until ≤ followed.timeline.until) others → AreAsked t placed.gates gates → IsPauseOf after before_list new.speeds new.until new.links others seen_list (t + 1) pause → length seen_list ≡ length halo →
    ArePlaced net cells halo connectors (t + 1) (record {
      states = after;
      constants = placed.constants;
      before = before_list;
      speeds = new.speeds;
      zones = placed.zones;
      speed_timelines = new.timelines;
      speeds_until = new.until;
      links = new.links;
      connectors = others;
      connectors_until = until;
      gates = gates;
      pause = pause;
      seen = seen_list;
    })
placed-after net cells halo connectors t n placed new outs carried ins after before_list others until gates pause seen_list put sound before has bounds seen steps long
    others_are unchanged gates_are pausing seen_each =
    let same : length after ≡ length cells = steps.long_after ∙ steps.now.kept.long ∙ has.one_each in
    let others_long = others_are.long in
    let gates_long = gates_are.long in
    record {
      around = has.around;
      known = has.known;
      connected = connected-followed net cells halo t placed.connectors others has.connected others_are;
      numbers = numbers-followed t placed.connectors others others_are ∙ has.numbers;
      one_each = same;
      constants_each = has.constants_each;
      before_each = long ∙ has.before_each;
      own = λ p within.
          (cell-after net cells halo connectors t n placed new outs carried ins after put p sound before has bounds seen steps within).1;
      space = λ p within.
          let there : p < length new.states = omega (arith, steps.now.kept.long, has.one_each) in
          let here : p < length placed.states = omega (arith, has.one_each) in
          let is = ap (λ state. state.space) (steps.stepped_each p there) ∙ ap (λ state. state.space) (steps.now.kept.only_most p here) in
          subst (λ space. IsSpaceOf space (room_at net.cells (slice_index cells p))) (sym is) (has.space p within);
      come = come-followed t placed.connectors others others_are;
      unchanged = unchanged;
      gates = gates-asked t placed.gates gates gates_are ∙ has.gates;
      demands = demands-asked net cells t placed.gates gates gates_are has.demands;
      links = λ k d within.
          let there = steps.now.links_there k d within in
          record { place = omega (arith, there.place, steps.long_after); step = omega (arith, there.step) };
      speeds = speeds-later net (cells ++ halo) new.timelines new.speeds t new.until steps.now.speeds;
      zones = has.zones;
      followed = follows-later (most_out net cells connectors) new.states after new.links t steps.long_after
          (λ p there. ap (λ state. state.most) (steps.stepped_each p there)) steps.now.followed;
      pause = pausing;
      seen_each = seen_each;
    }

-- no sum of a state is too large after the step
pub settled-after : (net : Network) (cells halo connectors : List ℕ) (t : ℕ) (n : ℕ → ℕ) (placed : PlacedCells) (new : Renewal) (outs carried ins : ℕ → ℕ) (after : List CellState) (before_list : List ℕ) (put : List (Option ℕ)) →
    IsNetwork net → t < net.steps → ArePlaced net cells halo connectors t placed → AreStatesInBounds net cells halo t placed put →
    IsSeen n cells halo placed.states put → AreSteps net cells halo connectors t n placed new outs carried ins after →
    length before_list ≡ length placed.before → AreSettled placed.constants after before_list
unfolding next_row
settled-after net cells halo connectors t n placed new outs carried ins after before_list put sound before has bounds seen steps long = record {
  one_each = steps.long_after ∙ steps.now.kept.long ∙ has.one_each ∙ sym has.constants_each;
  before_each = long ∙ has.before_each ∙ sym has.constants_each;
  each = λ p inside.
      let within : p < length cells = omega (arith, has.constants_each) in
      let next = cell-after net cells halo connectors t n placed new outs carried ins after put p sound before has bounds seen steps within in
      let is = ready net t n cells halo connectors placed put p sound before has bounds seen within in
      let n_is = ap (λ row. row.n) next.0 in
      let gone_is = ap (λ row. row.gone) next.0 in
      let few = is.after.n in
      let few_gone = is.after.gone in
      let i : ℕ = slice_index cells p in
      let there : p < length new.states = omega (arith, steps.now.kept.long, has.one_each) in
      let here : p < length placed.states = omega (arith, has.one_each) in
      let space_is = ap (λ state. state.space) (steps.stepped_each p there) ∙ ap (λ state. state.space) (steps.now.kept.only_most p here) in
      let space : IsSpaceOf (cell_state_at after p).space (room_at net.cells i) =
      subst (λ space. IsSpaceOf space (room_at net.cells i)) (sym space_is) (has.space p within) in
      let held : IsHeldInBounds net (t + 1) i (cell_state_at after p).n = subst (IsHeldInBounds net (t + 1) i) (sym n_is) is.next.held in
      record {
        began = next.1.began;
        sums = next.1.sums;
        fits = omega arith;
        room = held-fits (cell_state_at after p).n 0 (cell_state_at after p).space (room_at net.cells i) space
            (has-space net (t + 1) i (cell_state_at after p).n 0 sound (omega (arith, before)) is.there held (omega arith));
      };
}

-- what a step says of the cells as they are kept it says of them as contracts see them
pub rows-read : (net : Network) (cells : List ℕ) (t : ℕ) (placed old : PlacedCells) (put : List (Option ℕ)) (constants : List CellConstants) (states : List CellState) → placed ≡ old →
    ((can : CanAdvance net cells t placed put) → rows_of constants states ≡ rows_after net t can.n cells (rows_of placed.constants placed.states)) →
    (can : CanAdvance net cells t old put) → rows_of constants states ≡ rows_after net t can.n cells (rows_of old.constants old.states)
rows-read net cells t placed old put constants states is says =
    subst (λ from. (can : CanAdvance net cells t from put) → rows_of constants states ≡ rows_after net t can.n cells (rows_of from.constants from.states)) is says

pub placed-read : (net : Network) (cells : List ℕ) (t : ℕ) (placed old : PlacedCells) (put : List (Option ℕ)) (new : PlacedCells) → placed ≡ old →
    ((can : CanAdvance net cells t placed put) → ArePlaced net cells can.halo can.connectors (t + 1) new) →
    (can : CanAdvance net cells t old put) → ArePlaced net cells can.halo can.connectors (t + 1) new
placed-read net cells t placed old put new is says =
    subst (λ from. (can : CanAdvance net cells t from put) → ArePlaced net cells can.halo can.connectors (t + 1) new) is says

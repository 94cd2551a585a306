-- Cells among which nothing moves keep all but how long they waited.
use Rattle.std.specs.Prelude.{All, None, Option, ◌==◌, ◌⊎◌, map, slice_index, if◌then◌else◌}
use Rattle.std.specs.List.{range_with_len, sum_by}
use Rattle.std.proofs.Common.{◌≡◌, Bool, ℕ, zero, suc, ◌+◌, ◌-◌, ◌^◌, ◌<◌, ◌≤◌, inl, inr, true, false, List, [], ◌∷◌, ◌++◌, length, get_or, refl, sym, ap, ◌∙◌, subst, zero-add, add-one, arith}
use Rattle.std.proofs.lemmas.Bool.{cases_lt}
use Rattle.std.proofs.lemmas.List.{ext_get_or}
use Rattle.std.proofs.lemmas.List.FromFn.{get_or-map-range_with_len, length-map-range_with_len}
use Rattle.step_plan.specs.Speeds.{arriving}
use Rattle.step_plan.proofs.Sums.{sum_by-zero}
use Rattle.network_file.specs.Numbered.{connector_at}
use Rattle.network_file.specs.Network.{Network}
use Rattle.network_file.specs.Sound.{IsNetwork}
use Rattle.flow_model.specs.Flows.{amount_beside, entering, flow_of, inflow, leaving, outflow}
use Rattle.flow_model.specs.Limits.{room_at}
use Rattle.flow_model.specs.Stepping.{rows_after}
use Rattle.flow_model.specs.Rows.{empty_row, next_row}
use Rattle.connector_flow.specs.Flows.{flow_at, no_flow}
use Rattle.connector_flow.specs.Limits.{sends_second}
use Rattle.cell_sweep.specs.CellStates.{carried, link_in, link_out, moved, no_state, cell_state_at}
use Rattle.connector_flow.specs.Space.{IsSpaceOf}
use Rattle.region_body.specs.declared.cell_ref.CellRef.{CellRef}
use Rattle.region_body.specs.declared.cell_ref.CellRef.TheVariants.{Own, Halo}
use Rattle.cell_sweep.specs.declared.cell_state.CellState.{CellState}
use Rattle.cell_sweep.proofs.Neighbours.{link_in-first, link_in-more, cell_state_at-past}
use Rattle.timelines.specs.Cells.{CellValues}
use Rattle.timelines.specs.Timelines.{TimelineValue, value_at}
use Rattle.region_body.specs.FollowedLinks.{AreFollowed}
use Rattle.region_body.specs.declared.followed_link.FollowedLink.{FollowedLink}
use Rattle.region_body.specs.Carrying.{three_given}
use Rattle.region_body.specs.CellRefs.{given_now, held_in, ref_at, speed_place}
use Rattle.region_body.specs.Chains.{most_out}
use Rattle.region_body.specs.Gates.{AreGatesKept, demand_into}
use Rattle.region_body.proofs.Moves.{ArePartsOf, IsScene, in_by, out_by}
use Rattle.region_body.specs.Pausing.{AreIdle, IsIdleUntil}
use Rattle.region_body.specs.Placed.{ArePlaced, AreStatesInBounds, CanAdvance, IsSeen, PlacedCells, WaitThrough}
use Rattle.region_body.specs.Rows.{IsOf, constants_at, row_of, rows_of}
use Rattle.cell_sweep.specs.Speeds.{at_speeds, slowed_state, ratio_at}
use Rattle.cell_sweep.specs.Waiting.{waited}
use Rattle.region_body.specs.declared.gate.GatePlace.{GatePlace}
use Rattle.region_body.specs.declared.pause.Pause.{Pause}
use Rattle.region_body.specs.declared.followed_connector.FollowedConnector.{FollowedConnector}
use Rattle.region_body.proofs.Parting.{carried-is, three-as}
use Rattle.region_body.proofs.SpeedsNow.{AreSpeedsNow, speeds-now}
use Rattle.cell_sweep.proofs.AtSpeeds.{link_out-at_speeds}
use Rattle.region_body.proofs.Renewed.{renewed-of, speeds-later}
use Rattle.cell_sweep.proofs.Waits.{length-waited, n-waited, cell_state_at-waited, waited-same}
use Rattle.region_body.proofs.Gates.{demands-kept, gates-kept}
use Rattle.region_body.proofs.Whole.{IsMoved, held-sum, length-rows_after, length-rows_of, ready, row-after, row_at-rows_after, row_at-rows_of, steps-moved}

-- where nothing is carried nothing leaves a cell and nothing enters it

amount_beside-nothing : (i : ℕ) (cells : List ℕ) → amount_beside i cells (0 ∷ 0 ∷ []) ≡ 0
amount_beside-nothing i [] = refl
amount_beside-nothing i (a ∷ []) = none (i == a)
  where
    none : (b : Bool) → (if b then 0 else 0) + 0 ≡ 0
    none true = refl
    none false = refl
amount_beside-nothing i (a ∷ b ∷ cells) = both (i == a) (i == b) cells
  where
    both : (a b : Bool) (cells : List ℕ) → (if a then 0 else 0) + ((if b then 0 else 0) + amount_beside i cells []) ≡ 0
    both true true [] = refl
    both true false [] = refl
    both false true [] = refl
    both false false [] = refl
    both true true (c ∷ cells) = refl
    both true false (c ∷ cells) = refl
    both false true (c ∷ cells) = refl
    both false false (c ∷ cells) = refl

-- the links to neighbours

-- the states with what the limits let their links carry in step t
abbrev limited : Network → (cells connectors : List ℕ) → (t : ℕ) → List CellState → List CellState
limited net cells connectors t states = map (λ p. record (cell_state_at states p) { most = most_out net cells connectors p t }) (range_with_len 0 (length states))

length-limited : (net : Network) (cells connectors : List ℕ) (t : ℕ) (states : List CellState) → length (limited net cells connectors t states) ≡ length states
length-limited net cells connectors t states =
    length-map-range_with_len (λ p. record (cell_state_at states p) { most = most_out net cells connectors p t }) 0 (length states)

limited-at : (net : Network) (cells connectors : List ℕ) (t : ℕ) (states : List CellState) (p : ℕ) → p < length states →
    cell_state_at (limited net cells connectors t states) p ≡ record (cell_state_at states p) { most = most_out net cells connectors p t }
limited-at net cells connectors t states p within =
    get_or-map-range_with_len (λ p. record (cell_state_at states p) { most = most_out net cells connectors p t }) 0 (length states) p p no_state within (zero-add p)

-- what a cell holds and its space
limited-next : (net : Network) (cells connectors : List ℕ) (t : ℕ) (states : List CellState) (p : ℕ) (state : CellState) →
    carried state (cell_state_at (limited net cells connectors t states) p) ≡ carried state (cell_state_at states p)
limited-next net cells connectors t states p state = elim (cases_lt p (length states)) [
  | inl within ↦ ap (carried state) (limited-at net cells connectors t states p within)
  | inr past ↦
      ap (carried state) (cell_state_at-past (limited net cells connectors t states) p (omega (arith, past, length-limited net cells connectors t states))
      ∙ sym (cell_state_at-past states p (omega (arith, past))))
]

no_followed : FollowedLink
no_followed = record { place = 0; until = 0; timeline = record { up = no_cell; down = no_cell; step = 0 } }
  where
    no_numbers : TimelineValue ℕ
    no_numbers = record { start = 0; changes = []; step = 0 }

    no_cell : CellValues
    no_cell = record { capacity = no_numbers; signal = None }

-- the cell holds nothing, or the most of its link is that of step t
limited-most : (net : Network) (cells connectors : List ℕ) (t until speeds_until : ℕ) (states : List CellState) (speeds : List (ℕ × ℕ)) (links : List FollowedLink)
    (others : List FollowedConnector) (put : List (Option ℕ)) (p : ℕ) → AreFollowed (most_out net cells connectors) states links t →
    AreIdle states speeds speeds_until links others put until → t < until → p < length states →
    ((cell_state_at states p).n ≡ 0) ⊎ ((cell_state_at states p).most ≡ most_out net cells connectors p t)
limited-most net cells connectors t until speeds_until states speeds links others put p followed idle before within = elim (followed.each p within) [
  | inl constant ↦ inr (constant t (omega arith))
  | inr (m, has) ↦ elim (idle.changes m no_followed has.there) [
    | inl empty ↦ inl (ap (λ q. (cell_state_at states q).n) (sym (has.its no_followed)) ∙ empty)
    | inr later ↦ inr (has.steady no_followed t (omega arith) (omega (arith, later, before)))
  ]
]

limited-still : (net : Network) (cells connectors : List ℕ) (t until speeds_until : ℕ) (states : List CellState) (speeds : List (ℕ × ℕ)) (links : List FollowedLink)
    (others : List FollowedConnector) (put : List (Option ℕ)) (p : ℕ) → AreFollowed (most_out net cells connectors) states links t →
    AreIdle states speeds speeds_until links others put until → t < until → p < length states →
    link_out (at_speeds (limited net cells connectors t states) speeds) p ≡ 0
limited-still net cells connectors t until speeds_until states speeds links others put p followed idle before within =
    let state : CellState = cell_state_at states p in
    let now = limited net cells connectors t states in
    let speed : ℕ × ℕ = ratio_at speeds p in
    let is : link_out (at_speeds now speeds) p ≡ carried (slowed_state (record state { most = most_out net cells connectors p t }) speed) (cell_state_at states (p + 1)) =
    link_out-at_speeds now speeds p (omega (arith, within, length-limited net cells connectors t states))
    ∙ limited-next net cells connectors t states (p + 1) (slowed_state (cell_state_at now p) speed)
    ∙ ap (λ one. carried (slowed_state one speed) (cell_state_at states (p + 1))) (limited-at net cells connectors t states p within) in
    let still : carried (slowed_state state speed) (cell_state_at states (p + 1)) ≡ 0 = sym (link_out-at_speeds states speeds p within) ∙ idle.still p within in
    elim (limited-most net cells connectors t until speeds_until states speeds links others put p followed idle before within) [
      | inl none ↦ is ∙ omega (arith, none)
      | inr same ↦ is ∙ rw (← same) still
    ]

-- the other connectors

still-flow : (net : Network) (t : ℕ) (n : ℕ → ℕ) (cells halo : List ℕ) (others : List FollowedConnector) (states : List CellState) (speeds : List (ℕ × ℕ)) (put : List (Option ℕ)) (until k : ℕ) (followed : FollowedConnector) →
    IsScene net t cells halo others states put → IsSeen n cells halo states put → AreSpeedsNow net t cells halo speeds → All (λ followed. followed.timeline.step ≤ t) others → All (IsIdleUntil speeds states put until) others →
    t < until → k < length others → flow_of net t n (connector_at net.connectors (get_or others k followed).number) ≡ no_flow
still-flow net t n cells halo others states speeds put until k followed scene seen now come idle before there =
    sym (carried-is net t n cells halo others states speeds put (get_or others k followed) scene seen now (scene.connected.each k followed there))
    ∙ idle k followed there t (come k followed there) before

none-out : (net : Network) (t i : ℕ) (n : ℕ → ℕ) (k : ℕ) → flow_of net t n (connector_at net.connectors k) ≡ no_flow → out_by net t n i k ≤ 0
none-out net t i n k none =
    let is = ap (leaving i (connector_at net.connectors k)) none ∙ amount_beside-nothing i _ in omega (arith, is)

none-in : (net : Network) (t i : ℕ) (n : ℕ → ℕ) (k : ℕ) → flow_of net t n (connector_at net.connectors k) ≡ no_flow → in_by net t n i k ≤ 0
none-in net t i n k none =
    let is = ap (entering i (connector_at net.connectors k)) none ∙ amount_beside-nothing i _ in omega (arith, is)

none-demanded : (t p : ℕ) (gates : List GatePlace) → All (λ gate. value_at gate.timeline t ≡ 0) gates → sum_by (demand_into t p) gates ≡ 0
none-demanded t p gates none = sum_by-zero (demand_into t p) gates (λ k d within.
    let gate : GatePlace = get_or gates k d in
    let is : demand_into t p gate ≡ 0 = ap (λ x. if gate.place == p then x else 0) (none k d within) ∙ neither (gate.place == p) 0 in
    omega (arith, is))
  where
    neither : (b : Bool) (x : ℕ) → (if b then x else x) ≡ x
    neither true x = refl
    neither false x = refl

-- nothing leaves a cell that waits through step t, and nothing enters it

pub still : (net : Network) (t : ℕ) (n : ℕ → ℕ) (cells halo connectors : List ℕ) (placed : PlacedCells) (put : List (Option ℕ)) → IsNetwork net → t < net.steps →
    ArePlaced net cells halo connectors t placed → AreStatesInBounds net cells halo t placed put → IsSeen n cells halo placed.states put → WaitThrough t placed put →
    (p : ℕ) → p < length cells → (outflow net t n (slice_index cells p) ≡ 0) × (inflow net t n (slice_index cells p) ≡ 0)
still net t n cells halo connectors placed put sound before has bounds seen wait =
    let idle : AreIdle placed.states placed.speeds placed.speeds_until placed.links placed.connectors put placed.pause.until =
    subst (λ put. AreIdle placed.states placed.speeds placed.speeds_until placed.links placed.connectors put placed.pause.until) wait.same (has.pause.idle t wait.paused) in
    let scene : IsScene net t cells halo placed.connectors placed.states put = record {
      sound = sound;
      before = before;
      connected = has.connected;
      state_each = has.one_each;
      put_each = bounds.put_each;
      own = λ p within. (ready net t n cells halo connectors placed put p sound before has bounds seen within).row.held;
      around = bounds.around;
    } in
    let speeds : AreSpeedsNow net t cells halo placed.speeds =
    speeds-now net cells halo placed.speed_timelines placed.speeds t placed.speeds_until has.speeds (omega (arith, wait.paused, idle.stays)) in
    let flow = λ (k : ℕ) (d : FollowedConnector) (there : k < length placed.connectors).
    still-flow net t n cells halo placed.connectors placed.states placed.speeds put placed.pause.until k d scene seen speeds has.come idle.carry_nothing wait.paused there in
    let parts : ArePartsOf net t n cells placed.connectors (λ p. 0) (λ p. 0) = record {
      taken = λ p within. sym (sum_by-zero (λ followed. out_by net t n (slice_index cells p) followed.number) placed.connectors
          (λ k d there. none-out net t (slice_index cells p) n (get_or placed.connectors k d).number (flow k d there)));
      brought = λ p within. sym (sum_by-zero (λ followed. in_by net t n (slice_index cells p) followed.number) placed.connectors
          (λ k d there. none-in net t (slice_index cells p) n (get_or placed.connectors k d).number (flow k d there)));
    } in
    let now : List CellState = limited net cells connectors t placed.states in
    let states : List CellState = at_speeds now placed.speeds in
    let none : (p : ℕ) → p < length cells → link_out states p ≡ 0 =
    λ p within. limited-still net cells connectors t placed.pause.until placed.speeds_until placed.states placed.speeds placed.links placed.connectors put p has.followed idle
    wait.paused (omega (arith, has.one_each)) in
    let moves : IsMoved net t n cells states (λ p. 0) (λ p. 0) =
    steps-moved net cells halo connectors t n placed states (λ p. 0) (λ p. 0) (λ p. 0) put sound before has bounds seen
    (renewed-of net cells halo connectors t placed now placed.speeds sound has.one_each
    (length-limited net cells connectors t placed.states) (limited-at net cells connectors t placed.states) speeds) parts
    (λ p. omega (arith, none-demanded t p placed.gates wait.demand_nothing)) in
    λ p within. (
      omega (arith, moves.leaves p within, none p within),
      omega (arith, moves.enters p within, none-before states p within none),
    )
  where
    none-before : (states : List CellState) (p : ℕ) → p < length cells → ((p : ℕ) → p < length cells → link_out states p ≡ 0) → link_in states p ≡ 0
    none-before states zero within none = link_in-first states
    none-before states (suc p) within none = ap (link_in states) (sym (add-one p)) ∙ link_in-more states p ∙ none p (omega arith)

-- what a cell held once more is its step in which nothing moved
waits-step : (state : CellState) (enters leaves : ℕ) → enters ≡ 0 → leaves ≡ 0 → waited 1 state ≡ moved state enters leaves
unfolding waited
waits-step state enters leaves none none_out =
    let n : state.n + enters - leaves ≡ state.n = omega arith in
    let gone : state.gone + leaves ≡ state.gone = omega arith in
    rw (n, gone) refl

cell-waits : (net : Network) (t : ℕ) (n : ℕ → ℕ) (cells halo connectors : List ℕ) (placed : PlacedCells) (put : List (Option ℕ)) → IsNetwork net → t < net.steps →
    ArePlaced net cells halo connectors t placed → AreStatesInBounds net cells halo t placed put → IsSeen n cells halo placed.states put → WaitThrough t placed put →
    (p : ℕ) → p < length cells →
    (row_of (constants_at placed.constants p) (waited 1 (cell_state_at placed.states p)) ≡ next_row net t n (slice_index cells p) (row_of (constants_at placed.constants p) (cell_state_at placed.states p))) ×
    IsOf net (slice_index cells p) (constants_at placed.constants p) (waited 1 (cell_state_at placed.states p))
cell-waits net t n cells halo connectors placed put sound before has bounds seen wait p within =
    let state : CellState = cell_state_at placed.states p in
    let none = still net t n cells halo connectors placed put sound before has bounds seen wait p within in
    row-after net t n (slice_index cells p) (constants_at placed.constants p) state state (waited 1 state) state.most 0 0
    (ready net t n cells halo connectors placed put p sound before has bounds seen within) refl (waits-step state 0 0 refl refl) (sym none.1) (sym none.0)

-- the cells as they are after a step of waiting
abbrev pub waiting : PlacedCells → (gates : List GatePlace) → (before : List ℕ) → PlacedCells
waiting placed gates before = record placed {
  states = map (waited 1) placed.states;
  before = before;
  gates = gates;
  pause = record placed.pause { owed = placed.pause.owed + 1 };
}

pub rows-waited : (net : Network) (cells : List ℕ) (t : ℕ) (placed : PlacedCells) (put : List (Option ℕ)) → IsNetwork net → t < net.steps → WaitThrough t placed put →
    (can : CanAdvance net cells t placed put) → rows_of placed.constants (map (waited 1) placed.states) ≡ rows_after net t can.n cells (rows_of placed.constants placed.states)
rows-waited net cells t placed put sound before wait can =
    let rows = rows_after net t can.n cells (rows_of placed.constants placed.states) in
    ext_get_or empty_row (rows_of placed.constants (map (waited 1) placed.states)) rows
    (length-rows_of placed.constants (map (waited 1) placed.states) ∙ can.laid.constants_each ∙ sym (length-rows_after net t can.n cells (rows_of placed.constants placed.states)))
    (λ p lt.
    let inside : p < length placed.constants = omega (arith, length-rows_of placed.constants (map (waited 1) placed.states)) in
    let within : p < length cells = omega (arith, can.laid.constants_each) in
    row_at-rows_of placed.constants (map (waited 1) placed.states) p inside
    ∙ ap (row_of (constants_at placed.constants p)) (cell_state_at-waited 1 placed.states p (omega (arith, within, can.laid.one_each)))
    ∙ (cell-waits net t can.n cells can.halo can.connectors placed put sound before can.laid can.bounds can.seen wait p within).0
    ∙ sym (row_at-rows_after net t can.n cells (rows_of placed.constants placed.states) p within
    ∙ ap (next_row net t can.n (slice_index cells p)) (row_at-rows_of placed.constants placed.states p inside)))

-- what moves by their connectors is as before

held-waited : (states : List CellState) (put : List (Option ℕ)) (cell : CellRef) → held_in (map (waited 1) states) put cell ≡ held_in states put cell
held-waited states put (Own p) = n-waited 1 states p
held-waited states put (Halo j) = refl

given-waited : (speeds : List (ℕ × ℕ)) (states : List CellState) (put : List (Option ℕ)) (sends : Bool) (cell : CellRef) →
    given_now speeds (map (waited 1) states) put sends cell ≡ given_now speeds states put sends cell
given-waited speeds states put true cell =
    ap (λ count. arriving (ratio_at speeds (speed_place count cell)) (held_in (map (waited 1) states) put cell)) (length-waited 1 states)
    ∙ ap (arriving (ratio_at speeds (speed_place (length states) cell))) (held-waited states put cell)
given-waited speeds states put false cell = held-waited states put cell

three-waited : (followed : FollowedConnector) (speeds : List (ℕ × ℕ)) (states : List CellState) (put : List (Option ℕ)) →
    three_given followed (given_now speeds (map (waited 1) states) put) ≡ three_given followed (given_now speeds states put)
three-waited followed speeds states put =
    three-as _ _ _ _ _ _ (given-waited speeds states put true (ref_at followed.cells 0)) (given-waited speeds states put (sends_second followed.timeline.rule) (ref_at followed.cells 1))
    (given-waited speeds states put false (ref_at followed.cells 2))

next-waited : (states : List CellState) (p : ℕ) (state : CellState) → carried state (cell_state_at (map (waited 1) states) p) ≡ carried state (cell_state_at states p)
next-waited states p state = elim (cases_lt p (length states)) [
  | inl within ↦ ap (carried state) (cell_state_at-waited 1 states p within ∙ waited-same 1 (cell_state_at states p))
  | inr past ↦
      ap (carried state) (cell_state_at-past (map (waited 1) states) p (omega (arith, past, length-waited 1 states))
      ∙ sym (cell_state_at-past states p (omega (arith, past))))
]

out-waited : (states : List CellState) (speeds : List (ℕ × ℕ)) (p : ℕ) → p < length states → link_out (at_speeds (map (waited 1) states) speeds) p ≡ link_out (at_speeds states speeds) p
out-waited states speeds p within =
    link_out-at_speeds (map (waited 1) states) speeds p (omega (arith, within, length-waited 1 states))
    ∙ next-waited states (p + 1) (slowed_state (cell_state_at (map (waited 1) states) p) (ratio_at speeds p))
    ∙ ap (λ one. carried (slowed_state one (ratio_at speeds p)) (cell_state_at states (p + 1))) (cell_state_at-waited 1 states p within ∙ waited-same 1 (cell_state_at states p))
    ∙ sym (link_out-at_speeds states speeds p within)

idle-waited : (states : List CellState) (speeds : List (ℕ × ℕ)) (speeds_until : ℕ) (links : List FollowedLink) (others : List FollowedConnector) (put : List (Option ℕ)) (until : ℕ) →
    AreIdle states speeds speeds_until links others put until → AreIdle (map (waited 1) states) speeds speeds_until links others put until
idle-waited states speeds speeds_until links others put until idle = record {
  still = λ p within. let here : p < length states = omega (arith, within, length-waited 1 states) in out-waited states speeds p here ∙ idle.still p here;
  stays = idle.stays;
  changes = λ k d within. elim (idle.changes k d within) [
    | inl empty ↦ inl (n-waited 1 states (get_or links k d).place ∙ empty)
    | inr later ↦ inr later
  ];
  carry_nothing = λ k d within s from before.
      ap (flow_at (get_or others k d).timeline s) (three-waited (get_or others k d) speeds states put) ∙ idle.carry_nothing k d within s from before;
}

followed-waited : (most : ℕ → ℕ → ℕ) (states : List CellState) (links : List FollowedLink) (t : ℕ) → AreFollowed most states links t →
    AreFollowed most (map (waited 1) states) links (t + 1)
followed-waited most states links t has = record {
  timelines = has.timelines;
  each = λ p within.
      let here : p < length states = omega (arith, within, length-waited 1 states) in
      let is = ap (λ state. state.most) (cell_state_at-waited 1 states p here ∙ waited-same 1 (cell_state_at states p)) in
      elim (has.each p here) [
        | inl stays ↦ inl (λ s from. is ∙ stays s (omega (arith, from)))
        | inr (m, by) ↦ inr (m, record { there = by.there; its = by.its; steady = λ d s from before. is ∙ by.steady d s (omega (arith, from)) before })
      ];
}

pub placed-waited : (net : Network) (cells : List ℕ) (t : ℕ) (placed : PlacedCells) (put : List (Option ℕ)) (gates : List GatePlace) (before : List ℕ) → IsNetwork net →
    t < net.steps → WaitThrough t placed put → AreGatesKept t placed.gates gates → length before ≡ length placed.before →
    ((p : ℕ) → p < length placed.states → slice_index before p ≡ (cell_state_at placed.states p).n) →
    (can : CanAdvance net cells t placed put) → ArePlaced net cells can.halo can.connectors (t + 1) (waiting placed gates before)
placed-waited net cells t placed put gates before sound in_time wait kept long noted can =
    let has = can.laid in
    let space_is = λ (p : ℕ) (within : p < length cells).
    ap (λ state. state.space) (cell_state_at-waited 1 placed.states p (omega (arith, within, has.one_each)) ∙ waited-same 1 (cell_state_at placed.states p)) in
    record {
      around = has.around;
      known = has.known;
      connected = has.connected;
      numbers = has.numbers;
      one_each = length-waited 1 placed.states ∙ has.one_each;
      constants_each = has.constants_each;
      before_each = long ∙ has.before_each;
      own = λ p within.
          subst (IsOf net (slice_index cells p) (constants_at placed.constants p)) (sym (cell_state_at-waited 1 placed.states p (omega (arith, within, has.one_each))))
          (cell-waits net t can.n cells can.halo can.connectors placed put sound in_time has can.bounds can.seen wait p within).1;
      space = λ p within. subst (λ space. IsSpaceOf space (room_at net.cells (slice_index cells p))) (sym (space_is p within)) (has.space p within);
      come = λ k d within. omega (arith, has.come k d within);
      unchanged = has.unchanged;
      gates = gates-kept t placed.gates gates kept ∙ has.gates;
      demands = λ k d within.
          let is = demands-kept net cells t placed.gates gates kept has.demands k d within in
          record { demand = is.demand; step = omega (arith, is.step) };
      links = λ k d within.
          let there = has.links k d within in
          record { place = omega (arith, there.place, length-waited 1 placed.states); step = omega (arith, there.step) };
      speeds = speeds-later net (cells ++ can.halo) placed.speed_timelines placed.speeds t placed.speeds_until has.speeds;
      zones = has.zones;
      followed = followed-waited (most_out net cells can.connectors) placed.states placed.links t has.followed;
      pause = record {
        idle = λ s within. idle-waited placed.states placed.speeds placed.speeds_until placed.links placed.connectors placed.seen placed.pause.until (has.pause.idle s within);
        owed = omega (arith, has.pause.owed);
        kept = λ some p within.
            let here : p < length placed.states = omega (arith, within, length-waited 1 placed.states) in
            noted p here ∙ sym (n-waited 1 placed.states p);
      };
      seen_each = has.seen_each;
    }

-- no sum of a state runs too large as it waits
pub sums-fit : (net : Network) (cells : List ℕ) (t : ℕ) (placed : PlacedCells) (put : List (Option ℕ)) → IsNetwork net → t < net.steps →
    CanAdvance net cells t placed put → (p : ℕ) → p < length placed.constants → (constants_at placed.constants p).is_exit ≡ false →
    (cell_state_at placed.states p).held + (cell_state_at placed.states p).n < 2 ^ 64
sums-fit net cells t placed put sound before can p inside other =
    let within : p < length cells = omega (arith, can.laid.constants_each) in
    held-sum net t can.n (slice_index cells p) (constants_at placed.constants p) (cell_state_at placed.states p)
    (ready net t can.n cells can.halo can.connectors placed put p sound before can.laid can.bounds can.seen within) other

-- cells that wake, with gates that were asked

abbrev pub awake : PlacedCells → List GatePlace → PlacedCells
awake placed gates = record placed { gates = gates; pause = record placed.pause { owed = 0; until = 0 } }

pub placed-awake : (net : Network) (cells halo connectors : List ℕ) (t : ℕ) (placed : PlacedCells) (gates : List GatePlace) →
    ArePlaced net cells halo connectors t placed → AreGatesKept t placed.gates gates → ArePlaced net cells halo connectors t (awake placed gates)
placed-awake net cells halo connectors t placed gates has kept = record {
  around = has.around;
  known = has.known;
  connected = has.connected;
  numbers = has.numbers;
  one_each = has.one_each;
  constants_each = has.constants_each;
  before_each = has.before_each;
  own = has.own;
  space = has.space;
  come = has.come;
  unchanged = has.unchanged;
  gates = gates-kept t placed.gates gates kept ∙ has.gates;
  demands = demands-kept net cells t placed.gates gates kept has.demands;
  links = has.links;
  speeds = has.speeds;
  zones = has.zones;
  followed = has.followed;
  pause = record { idle = λ s none. absurd (omega (arith, none)); owed = omega arith; kept = λ some. absurd (omega (arith, some)) };
  seen_each = has.seen_each;
}

pub advance-awake : (net : Network) (cells : List ℕ) (t : ℕ) (placed : PlacedCells) (gates : List GatePlace) (put : List (Option ℕ)) →
    AreGatesKept t placed.gates gates → CanAdvance net cells t placed put → CanAdvance net cells t (awake placed gates) put
advance-awake net cells t placed gates put kept can = record {
  halo = can.halo;
  connectors = can.connectors;
  n = can.n;
  laid = placed-awake net cells can.halo can.connectors t placed gates can.laid kept;
  bounds = record { own = can.bounds.own; put_each = can.bounds.put_each; around = can.bounds.around };
  seen = can.seen;
}

-- what a step says of them it says of the cells as they were
pub rows-awake : (net : Network) (cells : List ℕ) (t : ℕ) (old mid new : PlacedCells) (gates : List GatePlace) (put : List (Option ℕ)) → mid ≡ awake old gates →
    AreGatesKept t old.gates gates → ((can : CanAdvance net cells t mid put) → rows_of new.constants new.states ≡ rows_after net t can.n cells (rows_of mid.constants mid.states)) →
    (can : CanAdvance net cells t old put) → rows_of new.constants new.states ≡ rows_after net t can.n cells (rows_of old.constants old.states)
unfolding advance-awake
rows-awake net cells t old mid new gates put is kept =
    rw is (λ rows can. rows (advance-awake net cells t old gates put kept can))

pub states-awake : (net : Network) (cells : List ℕ) (t : ℕ) (old mid new : PlacedCells) (gates : List GatePlace) (put : List (Option ℕ)) → mid ≡ awake old gates →
    AreGatesKept t old.gates gates → ((can : CanAdvance net cells t mid put) → ArePlaced net cells can.halo can.connectors (t + 1) new) →
    (can : CanAdvance net cells t old put) → ArePlaced net cells can.halo can.connectors (t + 1) new
unfolding advance-awake
states-awake net cells t old mid new gates put is kept =
    rw is (λ placed can. placed (advance-awake net cells t old gates put kept can))

-- with another pause the cells are placed as before
pub placed-paused : (net : Network) (cells halo connectors : List ℕ) (t : ℕ) (placed : PlacedCells) (pause : Pause) (seen : List (Option ℕ)) →
    ArePlaced net cells halo connectors t placed → pause.owed ≡ 0 → length seen ≡ length halo →
    ((s : ℕ) → s < pause.until → AreIdle placed.states placed.speeds placed.speeds_until placed.links placed.connectors seen pause.until) →
    ArePlaced net cells halo connectors t (record placed { pause = pause; seen = seen })
placed-paused net cells halo connectors t placed pause seen has none seen_each idle = record {
  around = has.around;
  known = has.known;
  connected = has.connected;
  numbers = has.numbers;
  one_each = has.one_each;
  constants_each = has.constants_each;
  before_each = has.before_each;
  own = has.own;
  space = has.space;
  come = has.come;
  unchanged = has.unchanged;
  gates = has.gates;
  demands = has.demands;
  links = has.links;
  speeds = has.speeds;
  zones = has.zones;
  followed = has.followed;
  pause = record { idle = idle; owed = omega (arith, none); kept = λ some. absurd (omega (arith, none, some)) };
  seen_each = seen_each;
}

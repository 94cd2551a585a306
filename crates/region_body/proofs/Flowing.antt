-- What leaves a cell and what enters it in a step, by the link between neighbours and by the other connectors.
use Rattle.std.specs.Prelude.{Bool, not, ◌⊎◌, eqb, min, slice_index, if◌then◌else◌}
use Rattle.std.specs.List.{Contains, filter, list_any, range_with_len, sum_by}
use Rattle.std.proofs.Common.{◌≡◌, ℕ, zero, suc, ◌+◌, ◌<◌, inl, inr, true, false, List, [], ◌∷◌, length, get_or, refl, sym, ap, ◌∙◌, subst, add-one, arith}
use Rattle.std.proofs.lemmas.Bool.{cases_Bool, eq-eqb, eqb-true}
use Rattle.std.proofs.lemmas.List.Elements.{Contains-get_or}
use Rattle.step_plan.specs.Capacity.{capacity_at}
use Rattle.step_plan.specs.Speeds.{arriving, speed_at}
use Rattle.step_plan.proofs.Sums.{sum_by_places, sum_by-zero}
use Rattle.network_file.specs.Cells.{is_exit_at, is_gate_at}
use Rattle.network_file.specs.Connectors.{leads_into, leads_out_of}
use Rattle.network_file.specs.Numbered.{connector_at}
use Rattle.network_file.specs.Network.{Network}
use Rattle.network_file.specs.Sound.{IsNetwork, IsSoundConnector}
use Rattle.network_file.specs.declared.connector.Connector.{Connector}
use Rattle.network_file.specs.declared.connector.Connector.TheVariants.{Link}
use Rattle.flow_model.specs.Flows.{entering, flow_of, inflow, leaving, outflow}
use Rattle.flow_model.specs.Limits.{receiving_at, room_at, sending_at}
use Rattle.flow_model.proofs.Flows.{leads_into-gate}
use Rattle.network_file.proofs.NetworkFacts.{connector_at-sound}
use Rattle.flow_model.proofs.CellFlows.{inflow-by, outflow-by}
use Rattle.flow_model.proofs.Connectors.{entering-other, leaving-other}
use Rattle.flow_model.proofs.Locality.{leads_into-touches, leads_out_of-touches}
use Rattle.cell_sweep.specs.CellStates.{link_in, link_out, cell_state_at}
use Rattle.connector_flow.specs.Space.{HasSpace, IsSpaceOf}
use Rattle.cell_sweep.specs.declared.cell_state.CellState.{CellState}
use Rattle.timelines.specs.Links.{most_between}
use Rattle.region_cut.proofs.Anys.{found, finds, not_false}
use Rattle.region_cut.proofs.Ranges.{Contains-filter_range, filter_range-Contains, range-Contains}
use Rattle.region_body.proofs.Moves.{in_by, out_by}
use Rattle.region_body.specs.Chains.{AreAround, AreDistinct, is_chained, is_joined, is_link, most_out, odd_ones}
use Rattle.region_body.proofs.Links.{IsLinkAt, carried-link, carried-none, entering-link, leaving-link, link-is}
use Rattle.region_body.proofs.Shares.{in_range, sum-all, sum-none}

outflow-sum : (net : Network) (t i : ℕ) (n : ℕ → ℕ) → outflow net t n i ≡ sum_by (out_by net t n i) (range_with_len 0 (length net.connectors))
unfolding outflow
outflow-sum net t i n = sum_by_places (λ c. leaving i c (flow_of net t n c)) net.connectors (Link 0 0)

inflow-sum : (net : Network) (t i : ℕ) (n : ℕ → ℕ) → is_gate_at net.cells i ≡ false →
    inflow net t n i ≡ sum_by (in_by net t n i) (range_with_len 0 (length net.connectors))
unfolding inflow
inflow-sum net t i n no_gate = rw no_gate (sum_by_places (λ c. entering i c (flow_of net t n c)) net.connectors (Link 0 0))

one_of : (a b : ℕ) → list_any (eqb a) (b ∷ []) ≡ true → a ≡ b
one_of a b listed = elim (cases_Bool (eqb a b)) [
  | inl same ↦ eqb-true a b same
  | inr other ↦ let none = rw other at listed in cc
]

-- each state has what its cell holds and its cell's space, and can send what limits and speed let its link carry
pub record HaveStates (net : Network) (t : ℕ) (n : ℕ → ℕ) (cells connectors : List ℕ) (states : List CellState) : Type 0 where
  pub one_each : length states ≡ length cells
  pub held : (p : ℕ) → p < length cells → (cell_state_at states p).n ≡ n (slice_index cells p)
  pub space : (p : ℕ) → p < length cells → IsSpaceOf (cell_state_at states p).space (room_at net.cells (slice_index cells p))
  pub fits : (p : ℕ) → p < length cells →
      HasSpace (cell_state_at states p).n (capacity_at net.plan (slice_index cells p) t) (room_at net.cells (slice_index cells p))
  pub sends : (p : ℕ) → p < length cells → min (cell_state_at states p).most (cell_state_at states p).n ≡
      min (most_out net cells connectors p t) (arriving (speed_at net.plan (slice_index cells p) t) (n (slice_index cells p)))

-- the connector that joins the p-th cell to the next
pub record IsJoin (net : Network) (cells connectors : List ℕ) (p : ℕ) : Type 0 where
  pub number : ℕ
  pub there : number < length net.connectors
  pub chained : is_chained cells (connector_at net.connectors number) ≡ true
  pub at : IsLinkAt cells p (connector_at net.connectors number)

-- so one of the region's connectors does
join : (net : Network) (cells connectors : List ℕ) (p : ℕ) → AreAround net cells connectors → is_joined net cells connectors p ≡ true →
    IsJoin net cells connectors p
unfolding is_joined
join net cells connectors p around joined =
    let some = found (λ k. is_link cells p (connector_at net.connectors k)) connectors joined in
    let listed : Contains (filter around.touched (range_with_len 0 (length net.connectors))) some.0 =
    subst (λ list. Contains list some.0) around.numbers some.1 in
    let at = link-is cells p (connector_at net.connectors some.0) some.2 in
    let within = at.within in
    record {
      number = some.0;
      there = (Contains-filter_range around.touched (length net.connectors) some.0 listed).0;
      chained = finds (λ q. is_link cells q (connector_at net.connectors some.0)) (range_with_len 0 (length cells)) p
          (range-Contains (length cells) p (omega arith)) some.2;
      at = at;
    }

joined-by : (net : Network) (cells connectors : List ℕ) (p k : ℕ) (around : AreAround net cells connectors) → k < length net.connectors →
    around.touched k ≡ true → is_link cells p (connector_at net.connectors k) ≡ true → is_joined net cells connectors p ≡ true
unfolding is_joined
joined-by net cells connectors p k around there touched linked =
    let listed : Contains connectors k =
    subst (λ list. Contains list k) (sym around.numbers) (filter_range-Contains around.touched (length net.connectors) k there touched) in
    finds (λ m. is_link cells p (connector_at net.connectors m)) connectors k listed linked

-- a chained connector out of the p-th cell joins it to the next
chained-out : (cells : List ℕ) (p : ℕ) (connector : Connector) → AreDistinct cells → p < length cells → is_chained cells connector ≡ true →
    leads_out_of (slice_index cells p) connector ≡ true → is_link cells p connector ≡ true
chained-out cells p connector distinct within chained out =
    let some = found (λ q. is_link cells q connector) (range_with_len 0 (length cells)) chained in
    let q : ℕ = some.0 in
    let at = link-is cells q connector some.2 in
    let inside = at.within in
    let out_here : leads_out_of (slice_index cells p) (Link (slice_index cells q) (slice_index cells (q + 1))) ≡ true =
    subst (λ c. leads_out_of (slice_index cells p) c ≡ true) at.is out in
    let same : slice_index cells p ≡ slice_index cells q = one_of (slice_index cells p) (slice_index cells q) out_here in
    let state : q ≡ p = distinct q p (omega arith) within (sym same) in
    subst (λ m. is_link cells m connector ≡ true) state some.2

-- and into the p-th cell it joins the one before to it
chained-into : (cells : List ℕ) (p : ℕ) (connector : Connector) → AreDistinct cells → p < length cells → is_chained cells connector ≡ true →
    leads_into (slice_index cells p) connector ≡ true → (q : ℕ) × (q + 1 ≡ p) × (is_link cells q connector ≡ true)
chained-into cells p connector distinct within chained into =
    let some = found (λ q. is_link cells q connector) (range_with_len 0 (length cells)) chained in
    let q : ℕ = some.0 in
    let at = link-is cells q connector some.2 in
    let inside = at.within in
    let into_here : leads_into (slice_index cells p) (Link (slice_index cells q) (slice_index cells (q + 1))) ≡ true =
    subst (λ c. leads_into (slice_index cells p) c ≡ true) at.is into in
    let same : slice_index cells p ≡ slice_index cells (q + 1) = one_of (slice_index cells p) (slice_index cells (q + 1)) into_here in
    let state : q + 1 ≡ p = distinct (q + 1) p (omega arith) within (sym same) in
    (q, state, some.2)

-- what the link out of the p-th cell can carry at most, by whether it is joined to the next
sent-by : (net : Network) (t : ℕ) (n : ℕ → ℕ) (cells connectors : List ℕ) (states : List CellState) (p : ℕ) (joined : Bool) → HaveStates net t n cells connectors states →
    p < length cells → is_joined net cells connectors p ≡ joined →
    min (cell_state_at states p).most (cell_state_at states p).n ≡
    min (if joined then most_between net.plan (slice_index cells p) (slice_index cells (p + 1)) t else 0)
    (arriving (speed_at net.plan (slice_index cells p) t) (n (slice_index cells p)))
unfolding most_out
sent-by net t n cells connectors states p joined has within is =
    has.sends p within
    ∙ ap (λ b. min (if b then most_between net.plan (slice_index cells p) (slice_index cells (p + 1)) t else 0)
    (arriving (speed_at net.plan (slice_index cells p) t) (n (slice_index cells p)))) is

-- where nothing joins a cell to the next, its place's link carries nothing
most-none : (net : Network) (t : ℕ) (n : ℕ → ℕ) (cells connectors : List ℕ) (states : List CellState) (p : ℕ) → HaveStates net t n cells connectors states →
    p < length cells → is_joined net cells connectors p ≡ false → link_out states p ≡ 0
unfolding link_out
most-none net t n cells connectors states p has within apart =
    carried-none (cell_state_at states p) (cell_state_at states (p + 1))
    (sent-by net t n cells connectors states p false has within apart ∙ none (arriving (speed_at net.plan (slice_index cells p) t) (n (slice_index cells p))))
  where
    none : (x : ℕ) → min 0 x ≡ 0
    none x = omega arith

-- and else it carries the flow of the link
most-joined : (net : Network) (t : ℕ) (n : ℕ → ℕ) (cells connectors : List ℕ) (states : List CellState) (p : ℕ) → HaveStates net t n cells connectors states →
    p + 1 < length cells → is_joined net cells connectors p ≡ true →
    link_out states p ≡ min (sending_at net t (slice_index cells p) (n (slice_index cells p)))
    (receiving_at net t (slice_index cells (p + 1)) (n (slice_index cells (p + 1))))
unfolding link_out
most-joined net t n cells connectors states p has within joined =
    carried-link net t (slice_index cells p) (slice_index cells (p + 1)) n (cell_state_at states p) (cell_state_at states (p + 1))
    (sent-by net t n cells connectors states p true has (omega arith) joined) (has.held (p + 1) within) (has.space (p + 1) within) (has.fits (p + 1) within)

own-cell : (cells : List ℕ) (p : ℕ) → p < length cells → Contains cells (slice_index cells p)
own-cell cells p within = Contains-get_or cells p 0 within

leads_out_of-link : (up down : ℕ) → leads_out_of up (Link up down) ≡ true
leads_out_of-link up down = let own = eq-eqb up up refl in rw own refl

leads_into-link : (up down : ℕ) → leads_into down (Link up down) ≡ true
leads_into-link up down = let own = eq-eqb down down refl in rw own refl

-- the sum over the connectors that are not chained
abbrev pub odd_sum : Network → (cells connectors : List ℕ) → (ℕ → ℕ) → ℕ
odd_sum net cells connectors f = sum_by f (odd_ones net cells connectors)

-- where connector k is chained and moves all, the others move nothing
odd-none : (net : Network) (cells connectors : List ℕ) (f : ℕ → ℕ) (k : ℕ) → AreAround net cells connectors → k < length net.connectors →
    is_chained cells (connector_at net.connectors k) ≡ true → sum_by f (range_with_len 0 (length net.connectors)) ≡ f k →
    odd_sum net cells connectors f ≡ 0
odd-none net cells connectors f k around there chained all =
    let odd : ℕ → Bool = λ m. not (is_chained cells (connector_at net.connectors m)) in
    ap (λ list. sum_by f (filter odd list)) around.numbers ∙
    sum-none around.touched odd f (length net.connectors) k there (ap not chained) all

-- where each that moves something is touched and not chained, they move all
odd-all : (net : Network) (cells connectors : List ℕ) (f : ℕ → ℕ) (around : AreAround net cells connectors) →
    ((k : ℕ) → k < length net.connectors → (f k ≡ 0) ⊎ ((around.touched k ≡ true) × (is_chained cells (connector_at net.connectors k) ≡ false))) →
    odd_sum net cells connectors f ≡ sum_by f (range_with_len 0 (length net.connectors))
odd-all net cells connectors f around each =
    let odd : ℕ → Bool = λ m. not (is_chained cells (connector_at net.connectors m)) in
    ap (λ list. sum_by f (filter odd list)) around.numbers ∙
    sum-all around.touched odd f (length net.connectors) (λ k below. elim (each k below) [
      | inl none ↦ inl none
      | inr (touched, other) ↦ inr (touched, not_false (is_chained cells (connector_at net.connectors k)) other)
    ])

-- what leaves a cell: by the link of its place, and by the connectors that are not chained
pub out-total : (net : Network) (t : ℕ) (n : ℕ → ℕ) (cells connectors : List ℕ) (states : List CellState) (p : ℕ) → IsNetwork net →
    AreAround net cells connectors → HaveStates net t n cells connectors states → p < length cells →
    link_out states p + odd_sum net cells connectors (out_by net t n (slice_index cells p)) ≡ outflow net t n (slice_index cells p)
out-total net t n cells connectors states p sound around has within = elim (cases_Bool (is_joined net cells connectors p)) [
  | inl joined ↦
      let i : ℕ = slice_index cells p in
      let here = join net cells connectors p around joined in
      let k : ℕ = here.number in
      let out : leads_out_of i (connector_at net.connectors k) ≡ true = rw here.at.is (leads_out_of-link i (slice_index cells (p + 1))) in
      let by = outflow-by net t k i n sound here.there out in
      let odd = odd-none net cells connectors (out_by net t n i) k around here.there here.chained (sym (outflow-sum net t i n) ∙ by) in
      let link : out_by net t n i k ≡ link_out states p =
      ap (λ c. leaving i c (flow_of net t n c)) here.at.is ∙ leaving-link i (slice_index cells (p + 1)) net t n
      ∙ sym (most-joined net t n cells connectors states p has here.at.within joined) in
      omega arith
  | inr apart ↦
      let i : ℕ = slice_index cells p in
      let none = most-none net t n cells connectors states p has within apart in
      let odd = odd-all net cells connectors (out_by net t n i) around (λ k below. elim (cases_Bool (leads_out_of i (connector_at net.connectors k))) [
        | inr other ↦ inl (leaving-other i (connector_at net.connectors k) (flow_of net t n (connector_at net.connectors k)) other)
        | inl out ↦
            let touched = around.whole i k (own-cell cells p within) below (leads_out_of-touches i (connector_at net.connectors k) out) in
            inr (
              touched,
              elim (cases_Bool (is_chained cells (connector_at net.connectors k))) [
                | inr other ↦ other
                | inl chained ↦
                    let linked = chained-out cells p (connector_at net.connectors k) around.distinct within chained out in
                    let joined = joined-by net cells connectors p k around below touched linked in cc
              ],
            )
      ]) in
      omega (arith, outflow-sum net t i n)
]

-- the place before, whose link leads into the p-th cell
before-joined : (net : Network) (t : ℕ) (n : ℕ → ℕ) (cells connectors : List ℕ) (states : List CellState) (q : ℕ) → IsNetwork net →
    AreAround net cells connectors → HaveStates net t n cells connectors states → is_joined net cells connectors q ≡ true →
    is_gate_at net.cells (slice_index cells (q + 1)) ≡ false →
    link_out states q + odd_sum net cells connectors (in_by net t n (slice_index cells (q + 1))) ≡ inflow net t n (slice_index cells (q + 1))
before-joined net t n cells connectors states q sound around has joined no_gate =
    let up : ℕ = slice_index cells q in
    let i : ℕ = slice_index cells (q + 1) in
    let here = join net cells connectors q around joined in
    let k : ℕ = here.number in
    let into : leads_into i (connector_at net.connectors k) ≡ true = rw here.at.is (leads_into-link up i) in
    let by = inflow-by net t k i n sound here.there into no_gate in
    let odd = odd-none net cells connectors (in_by net t n i) k around here.there here.chained (sym (inflow-sum net t i n no_gate) ∙ by) in
    let link : in_by net t n i k ≡ link_out states q =
    ap (λ c. entering i c (flow_of net t n c)) here.at.is ∙ entering-link up i net t n
    ∙ sym (most-joined net t n cells connectors states q has here.at.within joined) in
    omega arith

-- no chained connector leads into the p-th cell
NoneBefore : Network → (cells connectors : List ℕ) → (p : ℕ) → Type 0
NoneBefore net cells connectors p = (q : ℕ) → q + 1 ≡ p → is_joined net cells connectors q ≡ false

none-before : (net : Network) (t : ℕ) (n : ℕ → ℕ) (cells connectors : List ℕ) (p : ℕ) → AreAround net cells connectors → p < length cells →
    is_gate_at net.cells (slice_index cells p) ≡ false → NoneBefore net cells connectors p →
    odd_sum net cells connectors (in_by net t n (slice_index cells p)) ≡ inflow net t n (slice_index cells p)
unfolding NoneBefore
none-before net t n cells connectors p around within no_gate none =
    let i : ℕ = slice_index cells p in
    odd-all net cells connectors (in_by net t n i) around (λ k below. elim (cases_Bool (leads_into i (connector_at net.connectors k))) [
      | inr other ↦ inl (entering-other i (connector_at net.connectors k) (flow_of net t n (connector_at net.connectors k)) other)
      | inl into ↦
          let touched = around.whole i k (own-cell cells p within) below (leads_into-touches i (connector_at net.connectors k) into) in
          inr (
            touched,
            elim (cases_Bool (is_chained cells (connector_at net.connectors k))) [
              | inr other ↦ other
              | inl chained ↦
                  let linked = chained-into cells p (connector_at net.connectors k) around.distinct within chained into in
                  let joined = joined-by net cells connectors linked.0 k around below touched linked.2 in
                  let apart = none linked.0 linked.1 in cc
            ],
          )
    ]) ∙ sym (inflow-sum net t i n no_gate)

-- what connectors bring to a cell: by the link of the place before, and by the connectors that are not chained
pub in-total : (net : Network) (t : ℕ) (n : ℕ → ℕ) (cells connectors : List ℕ) (states : List CellState) (p : ℕ) → IsNetwork net →
    AreAround net cells connectors → HaveStates net t n cells connectors states → p < length cells →
    is_gate_at net.cells (slice_index cells p) ≡ false →
    link_in states p + odd_sum net cells connectors (in_by net t n (slice_index cells p)) ≡ inflow net t n (slice_index cells p)
unfolding link_in NoneBefore
in-total net t n cells connectors states zero sound around has within no_gate =
    let all = none-before net t n cells connectors 0 around within no_gate (λ q before. absurd (omega arith)) in omega arith
in-total net t n cells connectors states (suc q) sound around has within no_gate =
    let next : suc q ≡ q + 1 = sym (add-one q) in
    elim (cases_Bool (is_joined net cells connectors q)) [
      | inl joined ↦
          let no_gate_next = rw next at no_gate in
          rw next (before-joined net t n cells connectors states q sound around has joined no_gate_next)
      | inr apart ↦
          let none = most-none net t n cells connectors states q has (omega arith) apart in
          let all = none-before net t n cells connectors (suc q) around within no_gate
          (λ m before. let same : m ≡ q = omega arith in subst (λ k. is_joined net cells connectors k ≡ false) (sym same) apart) in
          omega arith
    ]

-- nothing is brought to a gate
odd-gate : (net : Network) (t i : ℕ) (n : ℕ → ℕ) (cells connectors : List ℕ) → IsNetwork net → AreAround net cells connectors →
    is_gate_at net.cells i ≡ true → odd_sum net cells connectors (in_by net t n i) ≡ 0
odd-gate net t i n cells connectors sound around gate =
    let none : (k : ℕ) → k < length net.connectors → in_by net t n i k ≡ 0 = λ k below.
    entering-other i (connector_at net.connectors k) (flow_of net t n (connector_at net.connectors k))
    (leads_into-gate net i (connector_at net.connectors k) (connector_at-sound net k sound below) gate) in
    odd-all net cells connectors (in_by net t n i) around (λ k below. inl (none k below))
    ∙ sum_by-zero (in_by net t n i) (range_with_len 0 (length net.connectors))
    (λ m d inside. let is = none (get_or (range_with_len 0 (length net.connectors)) m d) (in_range (length net.connectors) m d inside) in omega arith)

pub in-gate : (net : Network) (t : ℕ) (n : ℕ → ℕ) (cells connectors : List ℕ) (states : List CellState) (p : ℕ) → IsNetwork net →
    AreAround net cells connectors → HaveStates net t n cells connectors states → p < length cells →
    is_gate_at net.cells (slice_index cells p) ≡ true →
    (link_in states p ≡ 0) × (odd_sum net cells connectors (in_by net t n (slice_index cells p)) ≡ 0)
unfolding link_in
in-gate net t n cells connectors states zero sound around has within gate =
    (refl, odd-gate net t (slice_index cells 0) n cells connectors sound around gate)
in-gate net t n cells connectors states (suc q) sound around has within gate =
    let next : suc q ≡ q + 1 = sym (add-one q) in (
      elim (cases_Bool (is_joined net cells connectors q)) [
        | inl joined ↦
            let here = join net cells connectors q around joined in
            let connector : Connector = connector_at net.connectors here.number in
            let into : leads_into (slice_index cells (q + 1)) connector ≡ true = rw here.at.is (leads_into-link (slice_index cells q) (slice_index cells (q + 1))) in
            let never = leads_into-gate net (slice_index cells (q + 1)) connector (connector_at-sound net here.number sound here.there) (rw next at gate) in
            cc
        | inr apart ↦ most-none net t n cells connectors states q has (omega arith) apart
      ],
      odd-gate net t (slice_index cells (suc q)) n cells connectors sound around gate,
    )

-- A link from one cell to the next, and the flow between their states.
use Rattle.std.specs.Prelude.{Bool, ◌==◌, ◌&&◌, min, nat_lt, slice_index}
use Rattle.std.specs.List.{range_with_len}
use Rattle.std.proofs.Common.{◌≡◌, ℕ, ◌+◌, ◌<◌, inl, inr, true, false, List, length, refl, ap, ◌∙◌, arith}
use Rattle.std.proofs.lemmas.Bool.{cases_Bool, eq-eqb, eqb-true}
use Rattle.std.proofs.lemmas.Bool.Decides.{nat_tests}
use Rattle.ordinary_link.specs.Flows.{receiving_flow}
use Rattle.network_file.specs.Network.{Network}
use Rattle.network_file.specs.declared.connector.Connector.{Connector}
use Rattle.network_file.specs.declared.connector.Connector.TheVariants.{Link, Merge, Diverge}
use Rattle.step_plan.specs.Capacity.{capacity_at}
use Rattle.step_plan.specs.Green.{green_at}
use Rattle.step_plan.specs.Speeds.{arriving, speed_at}
use Rattle.flow_model.specs.Flows.{entering, flow_of, leaving}
use Rattle.flow_model.specs.Limits.{receiving_at, room_at, sending_at}
use Rattle.cell_sweep.specs.CellStates.{carried}
use Rattle.connector_flow.specs.Space.{HasSpace, IsSpaceOf, let_in}
use Rattle.cell_sweep.specs.declared.cell_state.CellState.{CellState}
use Rattle.region_body.proofs.LinkFlows.{link_flow-is}
use Rattle.timelines.specs.Cells.{most_by}
use Rattle.timelines.specs.Links.{most_between}
use Rattle.region_cut.proofs.Anys.{first_of_both, second_of_both, found}
use Rattle.region_body.specs.Chains.{HasNoNext, IsNextAt, is_chained, is_link}

-- it is that link
pub record IsLinkAt (cells : List ℕ) (p : ℕ) (connector : Connector) : Type 0 where
  pub within : p + 1 < length cells
  pub is : connector ≡ Link (slice_index cells p) (slice_index cells (p + 1))

pub link-is : (cells : List ℕ) (p : ℕ) (connector : Connector) → is_link cells p connector ≡ true → IsLinkAt cells p connector
link-is cells p (Link up down) linked =
    let here : Bool = slice_index cells p == up in
    let there : Bool = slice_index cells (p + 1) == down in
    let front = first_of_both (nat_lt (p + 1) (length cells) && here) there linked in
    let inside = first_of_both (nat_lt (p + 1) (length cells)) here front in
    let a : slice_index cells p ≡ up = eqb-true (slice_index cells p) up (second_of_both (nat_lt (p + 1) (length cells)) here front) in
    let b : slice_index cells (p + 1) ≡ down =
    eqb-true (slice_index cells (p + 1)) down (second_of_both (nat_lt (p + 1) (length cells) && here) there linked) in
    record { within = grind (arith, nat_tests); is = rw (a, b) refl }
link-is cells p (Merge up1 up2 down p1 p2) linked = cc
link-is cells p (Diverge up down1 down2 b1 b2) linked = cc

pub next-link : (cells : List ℕ) (up down p : ℕ) → IsNextAt cells up down p → is_link cells p (Link up down) ≡ true
next-link cells up down p has =
    let a = eq-eqb (slice_index cells p) up has.first in
    let b = eq-eqb (slice_index cells (p + 1)) down has.next in
    let within = has.within in
    let c : nat_lt (p + 1) (length cells) ≡ true = grind (arith, nat_tests) in
    rw (a, b, c) refl

pub next-none : (cells : List ℕ) (up down : ℕ) → HasNoNext cells up down → is_chained cells (Link up down) ≡ false
next-none cells up down none = elim (cases_Bool (is_chained cells (Link up down))) [
  | inl chained ↦
      let some = found (λ p. is_link cells p (Link up down)) (range_with_len 0 (length cells)) chained in
      let at = link-is cells some.0 (Link up down) some.2 in
      let ends = at.is in
      absurd (none some.0 (record { within = at.within; first = cc; next = cc }))
  | inr other ↦ other
]

pub not_chained : (cells : List ℕ) (connector : Connector) → ((p : ℕ) → is_link cells p connector ≡ false) → is_chained cells connector ≡ false
not_chained cells connector none = elim (cases_Bool (is_chained cells connector)) [
  | inl chained ↦
      let some = found (λ p. is_link cells p connector) (range_with_len 0 (length cells)) chained in
      let no = none some.0 in
      let so = some.2 in cc
  | inr other ↦ other
]

-- what a link carries leaves its cell upstream and enters the one downstream
pub leaving-link : (up down : ℕ) (net : Network) (t : ℕ) (n : ℕ → ℕ) →
    leaving up (Link up down) (flow_of net t n (Link up down)) ≡ min (sending_at net t up (n up)) (receiving_at net t down (n down))
unfolding flow_of
leaving-link up down net t n = let own = eq-eqb up up refl in rw own (omega arith)

pub entering-link : (up down : ℕ) (net : Network) (t : ℕ) (n : ℕ → ℕ) →
    entering down (Link up down) (flow_of net t n (Link up down)) ≡ min (sending_at net t up (n up)) (receiving_at net t down (n down))
unfolding flow_of
entering-link up down net t n = let own = eq-eqb down down refl in rw own (omega arith)

-- the same between two states, of which the first can send what limits and speed let through
pub carried-link : (net : Network) (t up down : ℕ) (n : ℕ → ℕ) (state next : CellState) →
    min state.most state.n ≡ min (most_between net.plan up down t) (arriving (speed_at net.plan up t) (n up)) → next.n ≡ n down →
    IsSpaceOf next.space (room_at net.cells down) → HasSpace next.n (capacity_at net.plan down t) (room_at net.cells down) →
    carried state next ≡ min (sending_at net t up (n up)) (receiving_at net t down (n down))
unfolding most_between most_by sending_at receiving_at
carried-link net t up down n state next sends next_held space has =
    ap (λ sent. min sent (let_in next.space next.n)) sends
    ∙ link_flow-is (capacity_at net.plan up t) (capacity_at net.plan down t) (arriving (speed_at net.plan up t) (n up)) next.n (green_at net.plan up t) next.space
    (room_at net.cells down) space has
    ∙ ap (λ m. min (sending_at net t up (n up)) (receiving_flow m (capacity_at net.plan down t) (room_at net.cells down))) next_held

pub carried-none : (state next : CellState) → min state.most state.n ≡ 0 → carried state next ≡ 0
carried-none state next none = omega arith

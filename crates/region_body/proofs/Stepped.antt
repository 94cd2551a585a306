-- A step of states, one part after the other: the links between neighbours, the other connectors, the demands.
use Rattle.std.specs.Prelude.{Bool, Option, slice_index, sum_by}
use Rattle.std.proofs.Common.{◌≡◌, ℕ, ◌+◌, ◌-◌, ◌^◌, ◌<◌, ◌≤◌, List, false, true, get_or, inl, inr, length, refl, sym, ap, ◌∙◌, arith}
use Rattle.std.proofs.lemmas.Bool.{cases_lt}
use Rattle.std.proofs.lemmas.List.{get_or_past}
use Rattle.step_plan.specs.Speeds.{arriving}
use Rattle.network_file.specs.Network.{Network}
use Rattle.network_file.specs.Sound.{IsNetwork}
use Rattle.cell_sweep.specs.CellStates.{link_in, link_out, moved, cell_state_at, swept, with_entered}
use Rattle.region_body.specs.declared.cell_ref.CellRef.{CellRef}
use Rattle.region_body.specs.declared.cell_ref.CellRef.TheVariants.{Own, Halo}
use Rattle.cell_sweep.specs.declared.cell_state.CellState.{CellState}
use Rattle.region_body.specs.Carrying.{AreConnectorsFollowed, CanCarry, CanPass, brought, passed, taken}
use Rattle.region_body.specs.CellRefs.{given_before, given_now, held_before, held_in, speed_place}
use Rattle.region_body.specs.Gates.{demand_into}
use Rattle.region_body.proofs.Moves.{IsScene}
use Rattle.region_body.specs.Placed.{IsSeen}
use Rattle.region_body.specs.Placed.{ArePlaced, AreStatesInBounds, PlacedCells}
use Rattle.region_body.specs.declared.followed_connector.FollowedConnector.{FollowedConnector}
use Rattle.cell_sweep.specs.Speeds.{ratio_at}
use Rattle.cell_sweep.proofs.Neighbours.{cell_state_at-past}
use Rattle.region_body.proofs.Parting.{can_carry, parts-are}
use Rattle.region_body.proofs.Renewed.{IsFresh, Renewal, sending}
use Rattle.region_body.proofs.SpeedsNow.{speeds-now}
use Rattle.region_body.proofs.Whole.{AreBrought, AreSteps, CanStep, can_step, parts-followed, scene-followed, scene-fresh, seen-fresh, steps-moved}

-- states that were swept, and the other connectors of that step
pub record IsSwept (net : Network) (cells halo connectors : List ℕ) (t : ℕ) (n : ℕ → ℕ) (placed : PlacedCells) (put : List (Option ℕ)) (new : Renewal) (others : List FollowedConnector) (swept_states : List CellState) (before : List ℕ) : Type 0 where
  pub sound : IsNetwork net
  pub in_time : t < net.steps
  pub laid : ArePlaced net cells halo connectors t placed
  pub bounds : AreStatesInBounds net cells halo t placed put
  pub seen : IsSeen n cells halo placed.states put
  pub now : IsFresh net cells halo connectors t placed new
  pub followed : AreConnectorsFollowed t placed.connectors others
  pub long : length swept_states ≡ length new.states
  pub swept_each : (p : ℕ) → p < length new.states → cell_state_at swept_states p ≡ swept new.states (sending new) p
  pub noted_long : length before ≡ length new.states
  pub noted : (p : ℕ) → p < length new.states → slice_index before p ≡ (cell_state_at new.states p).n

-- what these connectors take from place p and what they bring to it, and the gates besides
abbrev pub outs_of : (t : ℕ) → (speeds : List (ℕ × ℕ)) → (before : List ℕ) → (put : List (Option ℕ)) → List FollowedConnector → (p : ℕ) → ℕ
outs_of t speeds before put others p = sum_by (taken t (given_before speeds before put) p) others

abbrev pub carried_to : (t : ℕ) → (speeds : List (ℕ × ℕ)) → (before : List ℕ) → (put : List (Option ℕ)) → List FollowedConnector → (p : ℕ) → ℕ
carried_to t speeds before put others p = sum_by (brought t (given_before speeds before put) p) others

abbrev pub ins_of : (t : ℕ) → (speeds : List (ℕ × ℕ)) → (before : List ℕ) → (put : List (Option ℕ)) → List FollowedConnector → PlacedCells → (p : ℕ) → ℕ
ins_of t speeds before put others placed p = carried_to t speeds before put others p + sum_by (demand_into t p) placed.gates

pub scene-of : (net : Network) (cells halo connectors : List ℕ) (t : ℕ) (n : ℕ → ℕ) (placed : PlacedCells) (put : List (Option ℕ)) (new : Renewal) (others : List FollowedConnector) (swept_states : List CellState) (before : List ℕ) →
    IsSwept net cells halo connectors t n placed put new others swept_states before → IsScene net t cells halo others new.states put
scene-of net cells halo connectors t n placed put new others swept_states before is =
    scene-followed net t cells halo placed.connectors others new.states put
    (scene-fresh net t n cells halo connectors placed new.states put is.sound is.in_time is.laid is.bounds is.seen is.now.kept) is.followed

pub can-carry-each : (net : Network) (cells halo connectors : List ℕ) (t : ℕ) (n : ℕ → ℕ) (placed : PlacedCells) (put : List (Option ℕ)) (new : Renewal) (others : List FollowedConnector) (swept_states : List CellState) (before : List ℕ) (k : ℕ) (d : FollowedConnector) →
    IsSwept net cells halo connectors t n placed put new others swept_states before → k < length others →
    CanCarry t (get_or others k d) (length swept_states) put
can-carry-each net cells halo connectors t n placed put new others swept_states before k d is within =
    let scene = scene-of net cells halo connectors t n placed put new others swept_states before is in
    let followed : FollowedConnector = get_or others k d in
    let follows = is.followed.each k d (omega (arith, within, is.followed.long)) in
    rw is.long (can_carry net t cells halo others new.states put followed scene (scene.connected.each k d within) follows.step follows.later)

-- what was noted of cells is what they hold
noted-held : (before : List ℕ) (states : List CellState) (put : List (Option ℕ)) (cell : CellRef) → length before ≡ length states →
    ((p : ℕ) → p < length states → slice_index before p ≡ (cell_state_at states p).n) → held_before before put cell ≡ held_in states put cell
noted-held before states put (Own p) long noted = elim (cases_lt p (length states)) [
  | inl early ↦ noted p early
  | inr late ↦ get_or_past before p 0 (omega (arith, late, long)) ∙ sym (ap (λ state. state.n) (cell_state_at-past states p late))
]
noted-held before states put (Halo j) long noted = refl

noted-given : (speeds : List (ℕ × ℕ)) (before : List ℕ) (states : List CellState) (put : List (Option ℕ)) (sends : Bool) (cell : CellRef) → length before ≡ length states →
    ((p : ℕ) → p < length states → slice_index before p ≡ (cell_state_at states p).n) → given_before speeds before put sends cell ≡ given_now speeds states put sends cell
noted-given speeds before states put true cell long noted =
    ap (λ count. arriving (ratio_at speeds (speed_place count cell)) (held_before before put cell)) long
    ∙ ap (arriving (ratio_at speeds (speed_place (length states) cell))) (noted-held before states put cell long noted)
noted-given speeds before states put false cell long noted = noted-held before states put cell long noted

pub brought-of : (net : Network) (cells halo connectors : List ℕ) (t : ℕ) (n : ℕ → ℕ) (placed : PlacedCells) (put : List (Option ℕ)) (new : Renewal) (others : List FollowedConnector) (swept_states : List CellState) (before : List ℕ) →
    IsSwept net cells halo connectors t n placed put new others swept_states before →
    AreBrought net cells t n placed (outs_of t new.speeds before put others) (carried_to t new.speeds before put others) (ins_of t new.speeds before put others placed)
brought-of net cells halo connectors t n placed put new others swept_states before is =
    let scene = scene-of net cells halo connectors t n placed put new others swept_states before is in
    let seen = seen-fresh net t n cells halo connectors placed new.states put is.laid is.seen is.now.kept in
    record {
      parts = parts-followed net t n cells placed.connectors others (outs_of t new.speeds before put others) (carried_to t new.speeds before put others) is.followed
          (parts-are net t n cells halo others new.states new.speeds put (given_before new.speeds before put) scene seen
          (speeds-now net cells halo new.timelines new.speeds t new.until is.now.speeds is.now.later)
          (λ sends cell. noted-given new.speeds before new.states put sends cell is.noted_long is.noted));
      demands = λ p. refl;
    }

pub can-step-of : (net : Network) (cells halo connectors : List ℕ) (t : ℕ) (n : ℕ → ℕ) (placed : PlacedCells) (put : List (Option ℕ)) (new : Renewal) (others : List FollowedConnector) (swept_states : List CellState) (before : List ℕ) →
    IsSwept net cells halo connectors t n placed put new others swept_states before →
    CanStep new.states (sending new) (outs_of t new.speeds before put others) (ins_of t new.speeds before put others placed)
can-step-of net cells halo connectors t n placed put new others swept_states before is =
    let brings = brought-of net cells halo connectors t n placed put new others swept_states before is in
    can_step net t n cells halo connectors placed new.states (sending new) put (outs_of t new.speeds before put others) (ins_of t new.speeds before put others placed)
    is.sound is.in_time is.laid is.bounds is.seen is.now.kept
    (steps-moved net cells halo connectors t n placed (sending new) (outs_of t new.speeds before put others) (carried_to t new.speeds before put others) (ins_of t new.speeds before put others placed) put
    is.sound is.in_time is.laid is.bounds is.seen is.now.renewed brings.parts brings.demands)

-- one cell

can-pass : (state now : CellState) (link_enters link_leaves enters leaves demand : ℕ) → now ≡ moved state link_enters link_leaves → link_leaves + leaves ≤ state.n →
    state.gone + (link_leaves + leaves) < 2 ^ 64 → state.n + (link_enters + (enters + demand)) < 2 ^ 64 → CanPass now enters leaves
can-pass state now link_enters link_leaves enters leaves demand is held gone fits =
    let n_is = ap (λ one. one.n) is in
    let gone_is = ap (λ one. one.gone) is in
    record { held = omega arith; gone = omega arith; fits = omega arith }

can-enter : (state now later : CellState) (link_enters link_leaves enters leaves demand : ℕ) → now ≡ moved state link_enters link_leaves → later ≡ passed now enters leaves →
    link_leaves + leaves ≤ state.n → state.n + (link_enters + (enters + demand)) < 2 ^ 64 → later.n + demand < 2 ^ 64
can-enter state now later link_enters link_leaves enters leaves demand is was held fits =
    let n_is = ap (λ one. one.n) is in
    let n_was = ap (λ one. one.n) was in
    omega arith

together : (state now later after : CellState) (link_enters link_leaves enters leaves demand : ℕ) → now ≡ moved state link_enters link_leaves → later ≡ passed now enters leaves →
    after ≡ with_entered later demand → link_leaves + leaves ≤ state.n → after ≡ moved state (link_enters + (enters + demand)) (link_leaves + leaves)
together state now later after link_enters link_leaves enters leaves demand is was will held =
    let n : state.n + link_enters - link_leaves - leaves + enters + demand ≡ state.n + (link_enters + (enters + demand)) - (link_leaves + leaves) = omega arith in
    let gone : state.gone + link_leaves + leaves ≡ state.gone + (link_leaves + leaves) = omega arith in
    will ∙ ap (λ one. with_entered one demand) (was ∙ ap (λ one. passed one enters leaves) is) ∙ rw (n, gone) refl

-- each of them

pub can-pass-each : (net : Network) (cells halo connectors : List ℕ) (t : ℕ) (n : ℕ → ℕ) (placed : PlacedCells) (put : List (Option ℕ)) (new : Renewal) (others : List FollowedConnector) (swept_states : List CellState) (before : List ℕ) (p : ℕ) →
    IsSwept net cells halo connectors t n placed put new others swept_states before → p < length swept_states →
    CanPass (cell_state_at swept_states p) (carried_to t new.speeds before put others p) (outs_of t new.speeds before put others p)
can-pass-each net cells halo connectors t n placed put new others swept_states before p is within =
    let can = can-step-of net cells halo connectors t n placed put new others swept_states before is in
    let there : p < length new.states = omega (arith, within, is.long) in
    can-pass (cell_state_at new.states p) (cell_state_at swept_states p) (link_in (sending new) p) (link_out (sending new) p) (carried_to t new.speeds before put others p) (outs_of t new.speeds before put others p)
    (sum_by (demand_into t p) placed.gates) (is.swept_each p there) (can.held p there) (can.gone p there) (can.fits p there)

pub can-enter-each : (net : Network) (cells halo connectors : List ℕ) (t : ℕ) (n : ℕ → ℕ) (placed : PlacedCells) (put : List (Option ℕ)) (new : Renewal) (others : List FollowedConnector) (swept_states : List CellState) (before : List ℕ) (carried_states : List CellState) (p : ℕ) →
    IsSwept net cells halo connectors t n placed put new others swept_states before → length carried_states ≡ length swept_states →
    ((p : ℕ) → p < length swept_states → cell_state_at carried_states p ≡ passed (cell_state_at swept_states p) (carried_to t new.speeds before put others p) (outs_of t new.speeds before put others p)) →
    p < length carried_states → (cell_state_at carried_states p).n + sum_by (demand_into t p) placed.gates < 2 ^ 64
can-enter-each net cells halo connectors t n placed put new others swept_states before carried_states p is same passes within =
    let can = can-step-of net cells halo connectors t n placed put new others swept_states before is in
    let there : p < length new.states = omega (arith, within, is.long, same) in
    can-enter (cell_state_at new.states p) (cell_state_at swept_states p) (cell_state_at carried_states p) (link_in (sending new) p) (link_out (sending new) p) (carried_to t new.speeds before put others p)
    (outs_of t new.speeds before put others p) (sum_by (demand_into t p) placed.gates) (is.swept_each p there) (passes p (omega (arith, within, same))) (can.held p there) (can.fits p there)

-- all parts of the step
pub steps-of : (net : Network) (cells halo connectors : List ℕ) (t : ℕ) (n : ℕ → ℕ) (placed : PlacedCells) (put : List (Option ℕ)) (new : Renewal) (others : List FollowedConnector) (swept_states : List CellState) (before : List ℕ) (carried_states after : List CellState) →
    IsSwept net cells halo connectors t n placed put new others swept_states before → length carried_states ≡ length swept_states → length after ≡ length carried_states →
    ((p : ℕ) → p < length swept_states → cell_state_at carried_states p ≡ passed (cell_state_at swept_states p) (carried_to t new.speeds before put others p) (outs_of t new.speeds before put others p)) →
    ((p : ℕ) → p < length carried_states → cell_state_at after p ≡ with_entered (cell_state_at carried_states p) (sum_by (demand_into t p) placed.gates)) →
    AreSteps net cells halo connectors t n placed new (outs_of t new.speeds before put others) (carried_to t new.speeds before put others) (ins_of t new.speeds before put others placed) after
steps-of net cells halo connectors t n placed put new others swept_states before carried_states after is same same_after passes enters =
    let can = can-step-of net cells halo connectors t n placed put new others swept_states before is in
    record {
      now = is.now;
      brought = brought-of net cells halo connectors t n placed put new others swept_states before is;
      long_after = same_after ∙ same ∙ is.long;
      stepped_each = λ p there.
          let within : p < length swept_states = omega (arith, there, is.long) in
          together (cell_state_at new.states p) (cell_state_at swept_states p) (cell_state_at carried_states p) (cell_state_at after p) (link_in (sending new) p) (link_out (sending new) p)
          (carried_to t new.speeds before put others p) (outs_of t new.speeds before put others p) (sum_by (demand_into t p) placed.gates) (is.swept_each p there) (passes p within)
          (enters p (omega (arith, within, same))) (can.held p there);
    }

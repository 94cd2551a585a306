-- Cells in an order of their own: the same cells, each at its place.
use Rattle.std.specs.Prelude.{All, Option, map, slice_index}
use Rattle.std.specs.List.{Contains}
use Rattle.std.proofs.Common.{◌≡◌, ℕ, ◌<◌, ◌+◌, inl, inr, List, length, get_or, refl, sym, ap, subst, ◌∙◌, arith}
use Rattle.std.proofs.lemmas.List.{ext_get_or, get_or-map, get_or_default, length-map}
use Rattle.network_file.specs.Network.{Network}
use Rattle.flow_model.specs.Bounds.{IsRowInBounds}
use Rattle.flow_model.specs.Rows.{empty_row, next_row}
use Rattle.flow_model.specs.State.{row_at}
use Rattle.flow_model.specs.Stepping.{rows_after}
use Rattle.flow_model.specs.declared.row.Row.{Row}
use Rattle.chain_order.specs.Order.{IsOrder, OrderLists}
use Rattle.region_body.specs.Chains.{AreDistinct}
use Rattle.region_body.specs.Joining.{IsKnown}
use Rattle.cell_sweep.specs.CellStates.{cell_state_at}
use Rattle.region_body.specs.Placed.{AreCells, ArePlaced, CanAdvance, PlacedCells}
use Rattle.region_body.specs.Rows.{rows_of}
use Rattle.region_body.proofs.Whole.{length-rows_after, row_at-rows_after, row_at-rows_of}
use Rattle.region_step.specs.Ordered.{AreOrdered, CanStep, OrderedCells, before_in, rows_in}

-- the cell at a place is one of them, and each of them has a place

pub from_place : {cells : List ℕ} {order : OrderLists} → IsOrder cells order → (p : ℕ) → p < length order.placed →
    (m : ℕ) × (m < length cells) × (slice_index order.places m ≡ p) × (slice_index order.placed p ≡ slice_index cells m)
from_place {cells} {order} is p within =
    let filled = is.filled p (omega (arith, is.long)) in
    (filled.0, filled.1, filled.2, ap (slice_index order.placed) (sym filled.2) ∙ is.at_place filled.0 filled.1)

pub Contains-placed : {cells : List ℕ} {order : OrderLists} → IsOrder cells order → (i : ℕ) → Contains cells i → Contains order.placed i
Contains-placed {cells} {order} is i (m, within, here) =
    let p : ℕ = slice_index order.places m in
    let there : p < length order.placed = omega (arith, is.there m within, is.long) in
    let at : slice_index order.placed p ≡ i = is.at_place m within ∙ get_or_default cells m 0 i within ∙ here in
    (p, there, sym (get_or_default order.placed p 0 i there) ∙ at)

pub Contains-cells : {cells : List ℕ} {order : OrderLists} → IsOrder cells order → (i : ℕ) → Contains order.placed i → Contains cells i
Contains-cells {cells} {order} is i (p, within, here) =
    let from = from_place is p within in
    let at : slice_index cells from.0 ≡ i = sym from.3 ∙ get_or_default order.placed p 0 i within ∙ here in
    (from.0, from.1, sym (get_or_default cells from.0 0 i from.1) ∙ at)

-- what holds of all of them holds of all at their places
pub All-placed : {cells : List ℕ} {order : OrderLists} (P : ℕ → Type 0) → IsOrder cells order → All P cells → All P order.placed
All-placed {cells} {order} P is all = λ p d within.
    let from = from_place is p within in
    let same : get_or order.placed p d ≡ get_or cells from.0 0 = sym (get_or_default order.placed p 0 d within) ∙ from.3 in
    subst P (sym same) (all from.0 0 from.1)

distinct-placed : {cells : List ℕ} {order : OrderLists} → IsOrder cells order → AreDistinct cells → AreDistinct order.placed
distinct-placed {cells} {order} is distinct p q within inside same =
    let one = from_place is p within in
    let other = from_place is q inside in
    let both : one.0 ≡ other.0 = distinct one.0 other.0 one.1 other.1 (sym one.3 ∙ same ∙ other.3) in
    sym one.2 ∙ ap (slice_index order.places) both ∙ other.2

known-placed : (cells halo : List ℕ) (order : OrderLists) (i : ℕ) → IsOrder cells order → IsKnown cells halo i → IsKnown order.placed halo i
known-placed cells halo order i is known = elim known [ inl own ↦ inl (Contains-placed is i own) | inr other ↦ inr other ]

pub cells-placed : (net : Network) (cells halo connectors : List ℕ) (order : OrderLists) → IsOrder cells order → AreCells net cells halo connectors →
    AreCells net order.placed halo connectors
cells-placed net cells halo connectors order is has = record {
  around = record {
    distinct = distinct-placed is has.around.distinct;
    there = All-placed (λ i. i < length net.cells) is has.around.there;
    touched = has.around.touched;
    numbers = has.around.numbers;
    whole = λ i k own there touched. has.around.whole i k (Contains-cells is i own) there touched;
  };
  halo_rising = has.halo_rising;
  halo_there = has.halo_there;
  apart = λ p j within inside same. let from = from_place is p within in has.apart from.0 j from.1 inside (sym from.3 ∙ same);
  there = has.there;
  known = λ k d within. record { each = λ m few. known-placed cells halo order _ is ((has.known k d within).each m few) };
  few = omega (arith, has.few, is.long);
  few_halo = has.few_halo;
}

-- what stands at the places, taken in the order of the cells
pub in_order : {X : Type 0} (d : X) (f : ℕ → X) (xs : List X) (cells : List ℕ) (order : OrderLists) → IsOrder cells order → xs ≡ map f order.placed →
    map (λ p. get_or xs p d) order.places ≡ map f cells
in_order d f xs cells order is same =
    let long : length (map (λ p. get_or xs p d) order.places) ≡ length cells = length-map order.places (λ p. get_or xs p d) ∙ is.place_each in
    ext_get_or d (map (λ p. get_or xs p d) order.places) (map f cells) (long ∙ sym (length-map cells f))
    (λ m lt.
    let within : m < length cells = omega (arith, lt, long) in
    let p : ℕ = slice_index order.places m in
    get_or-map (λ p. get_or xs p d) order.places m 0 d (omega (arith, within, is.place_each)) ∙ ap (λ list. get_or list p d) same ∙
    get_or-map f order.placed p 0 d (omega (arith, is.there m within, is.long)) ∙ ap f (is.at_place m within) ∙ sym (get_or-map f cells m 0 d within))

pub length-rows_in : (cells : OrderedCells) → length (rows_in cells) ≡ length cells.order.places
length-rows_in cells = length-map cells.order.places (row_at (rows_of cells.placed.constants cells.placed.states))

-- the row of a cell is that of its place
pub row_at-rows_in : (cells : List ℕ) (ordered : OrderedCells) (m : ℕ) → m < length ordered.order.places →
    row_at (rows_in ordered) m ≡ row_at (rows_of ordered.placed.constants ordered.placed.states) (slice_index ordered.order.places m)
row_at-rows_in cells ordered m within =
    get_or-map (row_at (rows_of ordered.placed.constants ordered.placed.states)) ordered.order.places m 0 empty_row within

-- what a step of the states stands on
pub can_advance-placed : (net : Network) (cells : List ℕ) (t : ℕ) (ordered : OrderedCells) (put : List (Option ℕ)) → CanStep net cells t ordered put →
    CanAdvance net ordered.order.placed t ordered.placed put
can_advance-placed net cells t ordered put can =
    let is = can.laid.order in
    let placed : PlacedCells = ordered.placed in
    record {
      halo = can.halo;
      connectors = can.connectors;
      n = can.n;
      laid = can.laid.placed;
      bounds = record {
        own = λ p within.
            let from = from_place is p within in
            let row = row_at-rows_in cells ordered from.0 (omega (arith, from.1, is.place_each)) ∙ ap (row_at (rows_of placed.constants placed.states)) from.2 in
            subst (λ i. IsRowInBounds net t i (row_at (rows_of placed.constants placed.states) p)) (sym from.3)
            (subst (IsRowInBounds net t (slice_index cells from.0)) row (can.bounds from.0 from.1));
        put_each = can.put_each;
        around = can.put_bounds;
      };
      seen = record {
        own = λ p within.
            let from = from_place is p within in
            let row = row_at-rows_in cells ordered from.0 (omega (arith, from.1, is.place_each)) ∙ ap (row_at (rows_of placed.constants placed.states)) from.2 in
            ap can.n from.3 ∙ can.seen from.0 from.1 ∙ ap (λ row. row.n) row ∙
            ap (λ row. row.n) (row_at-rows_of placed.constants placed.states p (omega (arith, within, can.laid.placed.constants_each)));
        around = can.put_seen;
      };
    }

-- the rows after it, and what was held before it
pub rows-stepped : (net : Network) (cells : List ℕ) (t : ℕ) (n : ℕ → ℕ) (old new : OrderedCells) → IsOrder cells old.order → new.order ≡ old.order →
    rows_of new.placed.constants new.placed.states ≡ rows_after net t n old.order.placed (rows_of old.placed.constants old.placed.states) →
    rows_in new ≡ rows_after net t n cells (rows_in old)
rows-stepped net cells t n old new is order rows =
    let R : List Row = rows_of old.placed.constants old.placed.states in
    let after : List Row = rows_after net t n old.order.placed R in
    let long : length (map (row_at after) old.order.places) ≡ length cells = length-map old.order.places (row_at after) ∙ is.place_each in
    ap (λ places. map (row_at (rows_of new.placed.constants new.placed.states)) places) (ap (λ order. order.places) order) ∙
    ap (λ list. map (row_at list) old.order.places) rows ∙
    ext_get_or empty_row (map (row_at after) old.order.places) (rows_after net t n cells (rows_in old)) (long ∙ sym (length-rows_after net t n cells (rows_in old)))
    (λ m lt.
    let within : m < length cells = omega (arith, lt, long) in
    let p : ℕ = slice_index old.order.places m in
    get_or-map (row_at after) old.order.places m 0 empty_row (omega (arith, within, is.place_each)) ∙
    row_at-rows_after net t n old.order.placed R p (omega (arith, is.there m within, is.long)) ∙
    ap (λ i. next_row net t n i (row_at R p)) (is.at_place m within) ∙
    ap (next_row net t n (slice_index cells m)) (sym (row_at-rows_in cells old m (omega (arith, within, is.place_each)))) ∙
    sym (row_at-rows_after net t n cells (rows_in old) m within))

pub before-stepped : (net : Network) (cells halo connectors : List ℕ) (t : ℕ) (old new : OrderedCells) → AreOrdered net cells halo connectors t old → new.order ≡ old.order →
    ((p : ℕ) → p < length old.order.placed → slice_index new.placed.before p ≡ (cell_state_at old.placed.states p).n) →
    before_in new ≡ map (λ row. row.n) (rows_in old)
before-stepped net cells halo connectors t old new has order before =
    let is = has.order in
    let R : List Row = rows_of old.placed.constants old.placed.states in
    let long : length (map (slice_index new.placed.before) old.order.places) ≡ length cells = length-map old.order.places (slice_index new.placed.before) ∙ is.place_each in
    let rows : length (map (λ row. row.n) (rows_in old)) ≡ length cells =
    length-map (rows_in old) (λ row. row.n) ∙ length-map old.order.places (row_at R) ∙ is.place_each in
    ap (λ places. map (slice_index new.placed.before) places) (ap (λ order. order.places) order) ∙
    ext_get_or 0 (map (slice_index new.placed.before) old.order.places) (map (λ row. row.n) (rows_in old)) (long ∙ sym rows)
    (λ m lt.
    let within : m < length cells = omega (arith, lt, long) in
    let p : ℕ = slice_index old.order.places m in
    let there : p < length old.order.placed = omega (arith, is.there m within, is.long) in
    get_or-map (slice_index new.placed.before) old.order.places m 0 0 (omega (arith, within, is.place_each)) ∙ before p there ∙
    sym (get_or-map (λ row. row.n) (rows_in old) m empty_row 0 (omega (arith, within, length-map old.order.places (row_at R), is.place_each)) ∙
    ap (λ row. row.n) (row_at-rows_in cells old m (omega (arith, within, is.place_each))) ∙
    ap (λ row. row.n) (row_at-rows_of old.placed.constants old.placed.states p (omega (arith, there, has.placed.constants_each)))))

-- the step of the states says so, of cells that were read from these

abbrev SaysRows : (net : Network) (t : ℕ) (placed : List ℕ) (old : PlacedCells) (put : List (Option ℕ)) (new : PlacedCells) → Type 0
SaysRows net t placed old put new =
    (can : CanAdvance net placed t old put) → rows_of new.constants new.states ≡ rows_after net t can.n placed (rows_of old.constants old.states)

abbrev SaysPlaced : (net : Network) (t : ℕ) (placed : List ℕ) (old : PlacedCells) (put : List (Option ℕ)) (new : PlacedCells) → Type 0
SaysPlaced net t placed old put new = (can : CanAdvance net placed t old put) → ArePlaced net placed can.halo can.connectors (t + 1) new

abbrev SaysBefore : (placed : List ℕ) (old new : PlacedCells) → Type 0
SaysBefore placed old new = (p : ℕ) → p < length placed → slice_index new.before p ≡ (cell_state_at old.states p).n

pub rows-read : (net : Network) (cells : List ℕ) (t : ℕ) (old read : OrderedCells) (put : List (Option ℕ)) (placed : List ℕ) (new : PlacedCells) → read ≡ old →
    placed ≡ read.order.placed → SaysRows net t placed read.placed put new → (can : CanStep net cells t old put) →
    rows_in (record { placed = new; order = read.order }) ≡ rows_after net t can.n cells (rows_in old)
unfolding can_advance-placed
rows-read net cells t old read put placed new is own =
    rw (own, is) (λ says can.
    rows-stepped net cells t can.n old (record { placed = new; order = old.order }) can.laid.order refl (says (can_advance-placed net cells t old put can)))

pub ordered-read : (net : Network) (cells : List ℕ) (t : ℕ) (old read : OrderedCells) (put : List (Option ℕ)) (placed : List ℕ) (new : PlacedCells) → read ≡ old →
    placed ≡ read.order.placed → SaysPlaced net t placed read.placed put new → (can : CanStep net cells t old put) →
    AreOrdered net cells can.halo can.connectors (t + 1) (record { placed = new; order = read.order })
unfolding can_advance-placed
ordered-read net cells t old read put placed new is own =
    rw (own, is) (λ says can. record { order = can.laid.order; placed = says (can_advance-placed net cells t old put can) })

pub before-read : (net : Network) (cells : List ℕ) (t : ℕ) (old read : OrderedCells) (put : List (Option ℕ)) (placed : List ℕ) (new : PlacedCells) → read ≡ old →
    placed ≡ read.order.placed → SaysBefore placed read.placed new → (can : CanStep net cells t old put) →
    before_in (record { placed = new; order = read.order }) ≡ map (λ row. row.n) (rows_in old)
before-read net cells t old read put placed new is own =
    rw (own, is) (λ says can. before-stepped net cells can.halo can.connectors t old (record { placed = new; order = old.order }) can.laid refl says)

pub can-read : (net : Network) (cells : List ℕ) (t : ℕ) (old read : OrderedCells) (put : List (Option ℕ)) (placed : List ℕ) → read ≡ old →
    placed ≡ read.order.placed → CanStep net cells t old put → CanAdvance net placed t read.placed put
can-read net cells t old read put placed is own can = rw (own, is) (can_advance-placed net cells t old put can)

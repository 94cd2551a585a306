-- The law of the books.
use Rattle.std.specs.Prelude.{map, not, option_map, sum_by, if◌then◌else◌}
use Rattle.std.specs.List.{fold, range_with_len, sum}
use Rattle.std.proofs.Common.{◌≡◌, false, ℕ, ℤ, pos, ◌+◌, ◌<◌, ◌≤◌, ◌+ℤ◌, ◌-ℤ◌, List, [], ◌∷◌, length, get_or, arith, refl, sym, ap, ◌∙◌}
use Rattle.std.proofs.lemmas.Int.{ints}
use Rattle.std.proofs.lemmas.List.{length-map}
use Rattle.std.proofs.lemmas.List.Elements.{All-from_get_or}
use Rattle.std.proofs.lemmas.List.FromFn.{fill_by_all}
use Rattle.std.proofs.lemmas.List.Sums.{sum-map, sum_by-cons}
use Rattle.std.proofs.lemmas.Option.{get_or_from_slice_get, slice_get-map}
use Rattle.step_plan.proofs.Sums.{sum_by-same, sum_by_splits}
use Rattle.network_file.specs.Cells.{is_exit_at, is_gate_at}
use Rattle.network_file.specs.Connectors.{downstream_of, upstream_of}
use Rattle.network_file.specs.Network.{Network}
use Rattle.network_file.specs.Sound.{IsNetwork, IsSoundConnector}
use Rattle.network_file.specs.declared.cell.Cell.{Cell}
use Rattle.network_file.specs.declared.connector.Connector.{Connector}
use Rattle.network_file.specs.declared.connector.Connector.TheVariants.{Link}
use Rattle.flow_model.specs.Bounds.{first_at}
use Rattle.flow_model.specs.State.{occupancy, row_at, state_at}
use Rattle.flow_model.specs.declared.row.Row.{Row}
use Rattle.flow_model.proofs.CellKinds.{cell_at}
use Rattle.flow_ledger.specs.Books.{entered_of, inside_of, left_of, come_of}
use Rattle.flow_ledger.specs.Balances.{books_of, flights_of, initial_of}
use Rattle.flow_ledger.specs.BooksLaw.{BooksAtOneStep, BooksLaw}
use Rattle.flow_ledger.specs.Flight.{flight_by, gone_of}
use Rattle.flow_ledger.specs.UnevenSteps.{StandAt}
use Rattle.flow_ledger.proofs.CellBooks.{brought, cell-balance, none-brought, none-gone}
use Rattle.flow_ledger.proofs.CellSums.{sum_where-parts}
use Rattle.flow_ledger.proofs.ConnectorSums.{All-below, sum_by-lists}
use Rattle.flow_ledger.proofs.EvenFlights.{downstream-there, even, upstream-there}

-- what has gone out of the cells upstream of a connector, and what has come into those downstream
abbrev pub sent_into : List Row → Connector → ℕ
sent_into rows connector = sum_by (gone_of rows) (upstream_of connector)

abbrev pub received_from : List Row → Connector → ℕ
received_from rows connector = sum_by (come_of rows) (downstream_of connector)

-- all flights together, by the sums of both
flights-from : (rows : List Row) (sum : ℤ) (connectors : List Connector) →
    fold (λ sum connector. sum +ℤ flight_by rows connector) sum connectors ≡
    sum +ℤ (pos (sum_by (sent_into rows) connectors) -ℤ pos (sum_by (received_from rows) connectors))
unfolding flight_by
flights-from rows sum [] = omega (arith, ints)
flights-from rows sum (connector ∷ connectors) =
    omega (
      arith,
      ints,
      flights-from rows (sum +ℤ flight_by rows connector) connectors,
      sum_by-cons (sent_into rows) connector connectors,
      sum_by-cons (received_from rows) connector connectors,
    )

flights-parts : (net : Network) (rows : List Row) →
    flights_of net rows ≡ pos (sum_by (sent_into rows) net.connectors) -ℤ pos (sum_by (received_from rows) net.connectors)
unfolding flights_of
flights-parts net rows = omega (arith, ints, flights-from rows (pos 0) net.connectors)

-- over all cells

-- what they held at first
initial-parts : (net : Network) → initial_of net ≡ sum_by (first_at net.cells) (range_with_len 0 (length net.cells))
unfolding initial_of
initial-parts net =
    let firsts : List ℕ = map (λ (cell : Cell). cell.first) net.cells in
    let each : (i : ℕ) → i < length net.cells → get_or firsts i 0 ≡ first_at net.cells i = λ i has.
    let here = cell_at net.cells i has in
    rw here.1 (get_or_from_slice_get firsts i here.0.first 0 (slice_get-map (λ (cell : Cell). cell.first) net.cells i ∙ ap (λ o. option_map (λ (cell : Cell). cell.first) o) here.1)) in
    sym (sum-map (λ (cell : Cell). cell.first) net.cells) ∙
    ap sum (fill_by_all (first_at net.cells) firsts (length net.cells) 0 (length-map net.cells (λ (cell : Cell). cell.first)) each) ∙
    sum-map (first_at net.cells) (range_with_len 0 (length net.cells))

-- what has gone out of the cells upstream of all connectors has gone out of all cells
sent-parts : (net : Network) (s : ℕ → ℕ) (rows : List Row) → IsNetwork net → StandAt net s rows →
    sum_by (sent_into rows) net.connectors ≡ sum_by (gone_of rows) (range_with_len 0 (length net.cells))
sent-parts net s rows sound stand =
    sum_by-lists upstream_of (gone_of rows) (length net.cells) net.connectors
    (λ k d within. let fits = sound.sound.sound_connectors k d within in (fits.up_apart, upstream-there net (get_or net.connectors k d) fits))
    sound.sound.one_out (λ i has none. none-gone net s rows i stand has none)

-- and what has come into the cells downstream of them was brought to all cells
received-parts : (net : Network) (s : ℕ → ℕ) (rows : List Row) → IsNetwork net → StandAt net s rows →
    sum_by (received_from rows) net.connectors ≡ sum_by (brought net rows) (range_with_len 0 (length net.cells))
received-parts net s rows sound stand =
    sum_by-same (IsSoundConnector net.cells) (received_from rows) (λ connector. sum_by (brought net rows) (downstream_of connector)) net.connectors
    (λ connector fits.
    sum_by-same (λ i. is_gate_at net.cells i ≡ false) (come_of rows) (brought net rows) (downstream_of connector) (λ i no_gate. rw no_gate refl)
    (λ j d within. (fits.down j d within).1))
    sound.sound.sound_connectors ∙
    sum_by-lists downstream_of (brought net rows) (length net.cells) net.connectors
    (λ k d within. let fits = sound.sound.sound_connectors k d within in (fits.down_apart, downstream-there net (get_or net.connectors k d) fits))
    sound.sound.one_in (λ i has none. none-brought net s rows i stand has none)

-- the books of all cells together
cells-balance : (net : Network) (s : ℕ → ℕ) (rows : List Row) → IsNetwork net → StandAt net s rows →
    inside_of net rows + sum_by (gone_of rows) (range_with_len 0 (length net.cells)) + left_of net rows ≡
    initial_of net + entered_of net rows + sum_by (brought net rows) (range_with_len 0 (length net.cells))
unfolding inside_of entered_of left_of
cells-balance net s rows sound stand =
    let cells : List ℕ = range_with_len 0 (length net.cells) in
    let inside : ℕ → ℕ = λ i. if not (is_exit_at net.cells i) then occupancy rows i else 0 in
    let left : ℕ → ℕ = λ i. if is_exit_at net.cells i then occupancy rows i else 0 in
    let entered : ℕ → ℕ = λ i. if is_gate_at net.cells i then come_of rows i else 0 in
    omega (
      arith,
      sum_where-parts (λ i. not (is_exit_at net.cells i)) (occupancy rows) (length net.cells),
      sum_where-parts (is_exit_at net.cells) (occupancy rows) (length net.cells),
      sum_where-parts (is_gate_at net.cells) (come_of rows) (length net.cells),
      initial-parts net,
      sum_by-same (λ i. i < length net.cells) (λ i. inside i + gone_of rows i + left i) (λ i. first_at net.cells i + entered i + brought net rows i) cells
          (λ i has. cell-balance net s rows i sound stand has) (All-below (length net.cells)),
      sum_by_splits (λ i. inside i + gone_of rows i + left i) (λ i. inside i + gone_of rows i) left cells (λ i. refl),
      sum_by_splits (λ i. inside i + gone_of rows i) inside (gone_of rows) cells (λ i. refl),
      sum_by_splits (λ i. first_at net.cells i + entered i + brought net rows i) (λ i. first_at net.cells i + entered i) (brought net rows) cells (λ i. refl),
      sum_by_splits (λ i. first_at net.cells i + entered i) (first_at net.cells) entered cells (λ i. refl),
    )

pub books-law : (net : Network) (rows : List Row) → IsNetwork net → BooksLaw net rows (books_of net rows)
unfolding books_of
books-law net rows sound s stand =
    omega (
      arith,
      ints,
      flights-parts net rows,
      sent-parts net s rows sound stand,
      received-parts net s rows sound stand,
      cells-balance net s rows sound stand,
    )

-- at one step

pub StandAt-one_step : (net : Network) (t : ℕ) (rows : List Row) → t ≤ net.steps → rows ≡ state_at net t → StandAt net (λ i. t) rows
StandAt-one_step net t rows within is = record { in_time = λ i has. within; each = λ i has. ap (λ rows. row_at rows i) is }

even-parts : (net : Network) (t : ℕ) → IsNetwork net →
    sum_by (sent_into (state_at net t)) net.connectors ≡ sum_by (received_from (state_at net t)) net.connectors
even-parts net t sound =
    let is_even : Connector → Type 0 = λ connector. sent_into (state_at net t) connector ≡ received_from (state_at net t) connector in
    sum_by-same is_even (sent_into (state_at net t)) (received_from (state_at net t)) net.connectors (λ connector same. same)
    (All-from_get_or is_even net.connectors (Link 0 0) (λ k there. even net t k sound there))

-- all flights together are 0
pub no-flights : (net : Network) (t : ℕ) → IsNetwork net → flights_of net (state_at net t) ≡ pos 0
no-flights net t sound = omega (arith, ints, flights-parts net (state_at net t), even-parts net t sound)

-- and what is inside or has left was there at first or has entered
pub state-balance : (net : Network) (t : ℕ) → IsNetwork net → t ≤ net.steps →
    inside_of net (state_at net t) + left_of net (state_at net t) ≡ initial_of net + entered_of net (state_at net t)
state-balance net t sound within =
    let stand = StandAt-one_step net t (state_at net t) within refl in
    omega (
      arith,
      even-parts net t sound,
      sent-parts net (λ i. t) (state_at net t) sound stand,
      received-parts net (λ i. t) (state_at net t) sound stand,
      cells-balance net (λ i. t) (state_at net t) sound stand,
    )

pub books-at_one_step : (net : Network) (rows : List Row) → IsNetwork net → BooksAtOneStep net rows (books_of net rows)
unfolding books_of
books-at_one_step net rows sound t within is = rw is (no-flights net t sound, ap pos (state-balance net t sound within))

-- The law of a flight.
use Rattle.std.specs.Prelude.{All, sum_by, if◌then◌else◌, ◌==◌}
use Rattle.std.proofs.Common.{◌≡◌, inl, inr, ℕ, false, true, ◌+◌, ◌<◌, List, ◌++◌, length, get_or, arith, refl, subst, ap, ◌∙◌}
use Rattle.std.proofs.lemmas.Bool.{eq-eqb, ne_eqb}
use Rattle.std.proofs.lemmas.Int.{ints}
use Rattle.std.proofs.lemmas.List.{get_or-append-add, get_or_append_left, length-append}
use Rattle.std.proofs.lemmas.List.Elements.{All-weaker}
use Rattle.step_plan.proofs.Sums.{sum_by-filter, sum_by-same, sum_by-zero, sum_by_splits}
use Rattle.network_file.specs.Connectors.{cells_of, downstream_of, upstream_of}
use Rattle.network_file.specs.Numbered.{connector_at}
use Rattle.network_file.specs.Network.{Network}
use Rattle.network_file.specs.Sound.{IsNetwork}
use Rattle.network_file.specs.declared.connector.Connector.{Connector}
use Rattle.network_file.proofs.NetworkFacts.{connector_at-sound}
use Rattle.flow_model.specs.State.{state_at}
use Rattle.flow_model.specs.declared.row.Row.{Row}
use Rattle.flow_ledger.specs.Flight.{flight_by, flight_of, gone_of}
use Rattle.flow_ledger.specs.Books.{come_of}
use Rattle.flow_ledger.specs.FlightLaw.{FlightAtOneStep, FlightLaw, IsClose, ahead, enters, leaves}
use Rattle.flow_ledger.specs.UnevenSteps.{StandAt}
use Rattle.flow_ledger.proofs.EvenFlights.{AreThere, downstream-there, even, upstream-there}
use Rattle.flow_ledger.proofs.StateRows.{come-next, gone-next}

-- what holds of all of two lists holds of all of each
All-first : {X : Type 0} (P : X → Type 0) (xs ys : List X) → All P (xs ++ ys) → All P xs
All-first P xs ys all = λ k d within. subst P (get_or_append_left xs ys d k within) (all k d (omega (arith, length-append xs ys)))

All-second : {X : Type 0} (P : X → Type 0) (xs ys : List X) → All P (xs ++ ys) → All P ys
All-second P xs ys all = λ k d within. subst P (get_or-append-add xs ys k d) (all (length xs + k) d (omega (arith, length-append xs ys)))

-- a total of cell i, which is that of its own step, by that of step m and what moved in step m
record IsMoved (total : (t i : ℕ) → ℕ) (moved now s : ℕ → ℕ) (m i : ℕ) : Type 0 where
  stands : now i ≡ total (s i) i
  next : total (m + 1) i ≡ total m i + moved i
  close : IsClose s m i

moved_by : (total : (t i : ℕ) → ℕ) (moved now s : ℕ → ℕ) (m i : ℕ) → IsMoved total moved now s m i →
    now i ≡ total m i + (if s i == m + 1 then moved i else 0)
moved_by total moved now s m i is = elim is.close [
  | inl same ↦
      let behind : (s i == m + 1) ≡ false = ne_eqb (s i) (m + 1) (λ past. absurd (omega arith)) in
      rw behind (is.stands ∙ rw same (omega arith))
  | inr past ↦
      let here : (s i == m + 1) ≡ true = eq-eqb (s i) (m + 1) past in
      rw here (is.stands ∙ rw past is.next)
]

-- the same of all cells of a list
moved_in_all : (total : (t i : ℕ) → ℕ) (moved now s : ℕ → ℕ) (m : ℕ) (cells : List ℕ) → All (IsMoved total moved now s m) cells →
    sum_by now cells ≡ sum_by (total m) cells + sum_by moved (ahead s m cells)
moved_in_all total moved now s m cells all =
    let part : ℕ → ℕ = λ i. if s i == m + 1 then moved i else 0 in
    omega (
      arith,
      sum_by-same (IsMoved total moved now s m) now (λ i. total m i + part i) cells (moved_by total moved now s m) all,
      sum_by_splits (λ i. total m i + part i) (total m) part cells (λ i. refl),
      sum_by-filter moved (λ i. s i == m + 1) cells,
    )

gone-moved : (net : Network) (s : ℕ → ℕ) (m : ℕ) (rows : List Row) (cells : List ℕ) → StandAt net s rows → AreThere net cells →
    All (IsClose s m) cells →
    sum_by (gone_of rows) cells ≡ sum_by (gone_of (state_at net m)) cells + sum_by (leaves net m) (ahead s m cells)
gone-moved net s m rows cells stand there close =
    moved_in_all (λ t. gone_of (state_at net t)) (leaves net m) (gone_of rows) s m cells (λ k d within. record {
      stands = ap (λ (row : Row). row.gone) (stand.each (get_or cells k d) (there k d within));
      next = gone-next net m (get_or cells k d) (there k d within);
      close = close k d within;
    })

come-moved : (net : Network) (s : ℕ → ℕ) (m : ℕ) (rows : List Row) (cells : List ℕ) → StandAt net s rows → AreThere net cells →
    All (IsClose s m) cells →
    sum_by (come_of rows) cells ≡ sum_by (come_of (state_at net m)) cells + sum_by (enters net m) (ahead s m cells)
come-moved net s m rows cells stand there close =
    moved_in_all (λ t. come_of (state_at net t)) (enters net m) (come_of rows) s m cells (λ k d within. record {
      stands = ap (λ (row : Row). row.come) (stand.each (get_or cells k d) (there k d within));
      next = come-next net m (get_or cells k d) (there k d within);
      close = close k d within;
    })

pub flight-law : (net : Network) (rows : List Row) (k : ℕ) → IsNetwork net → k < length net.connectors →
    FlightLaw net rows (connector_at net.connectors k) (flight_of net rows k)
unfolding flight_by
flight-law net rows k sound there s m stand close =
    let connector : Connector = connector_at net.connectors k in
    let fits = connector_at-sound net k sound there in
    let up : List ℕ = upstream_of connector in
    let down : List ℕ = downstream_of connector in
    omega (
      arith,
      ints,
      gone-moved net s m rows up stand (upstream-there net connector fits) (All-first (IsClose s m) up down close),
      come-moved net s m rows down stand (downstream-there net connector fits) (All-second (IsClose s m) up down close),
      even net m k sound there,
    )

-- where none of these cells is ahead nothing of them is
none_ahead : (f s : ℕ → ℕ) (m : ℕ) (cells : List ℕ) → All (λ i. s i ≡ m) cells → sum_by f (ahead s m cells) ≡ 0
none_ahead f s m cells all =
    let part : ℕ → ℕ = λ i. if s i == m + 1 then f i else 0 in
    sum_by-filter f (λ i. s i == m + 1) cells ∙
    sum_by-zero part cells (λ k d within.
    let i : ℕ = get_or cells k d in
    let same : s i ≡ m = all k d within in
    let behind : (s i == m + 1) ≡ false = ne_eqb (s i) (m + 1) (λ past. absurd (omega arith)) in rw behind (omega arith))

pub flight-at_one_step : (net : Network) (rows : List Row) (k : ℕ) → IsNetwork net → k < length net.connectors →
    FlightAtOneStep net rows (connector_at net.connectors k) (flight_of net rows k)
flight-at_one_step net rows k sound there s m stand all =
    let connector : Connector = connector_at net.connectors k in
    let up : List ℕ = upstream_of connector in
    let down : List ℕ = downstream_of connector in
    let law = flight-law net rows k sound there s m stand (All-weaker (λ i. s i ≡ m) (IsClose s m) (λ i same. inl same) (cells_of connector) all) in
    omega (
      arith,
      ints,
      law,
      none_ahead (leaves net m) s m up (All-first (λ i. s i ≡ m) up down all),
      none_ahead (enters net m) s m down (All-second (λ i. s i ≡ m) up down all),
    )

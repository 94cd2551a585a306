-- What is under way at connectors inside one region and at those that touch more than one.
use Rattle.std.specs.Prelude.{not, cond, slice_index, ◌==◌}
use Rattle.std.specs.List.{Contains, filter, fold, list_any, range_with_len}
use Rattle.std.proofs.Common.{◌≡◌, ℕ, zero, suc, ◌+◌, ◌<◌, ◌≤◌, inl, inr, Bool, true, false, List, [], ◌∷◌, ◌++◌, ℤ, pos, ◌+ℤ◌, length, get_or, take, refl, sym, ap, subst, ◌∙◌, arith}
use Rattle.std.proofs.lemmas.Bool.{cases_Bool, cases_eq, ne_eqb}
use Rattle.std.proofs.lemmas.Int.{ints}
use Rattle.std.proofs.lemmas.List.{append-nil, take_all, take_more}
use Rattle.std.proofs.lemmas.List.Elements.{Contains-get_or}
use Rattle.std.proofs.lemmas.List.Folds.{list_any_at}
use Rattle.std.proofs.lemmas.List.Sums.{fold-append}
use Rattle.network_file.specs.Connectors.{cells_of}
use Rattle.network_file.specs.Numbered.{connector_at}
use Rattle.network_file.specs.Network.{Network}
use Rattle.network_file.specs.Sound.{IsNetwork}
use Rattle.network_file.specs.declared.connector.Connector.{Connector}
use Rattle.network_file.specs.declared.connector.Connector.TheVariants.{Link}
use Rattle.flow_model.specs.declared.row.Row.{Row}
use Rattle.flow_ledger.specs.Balances.{books_of, flights_of}
use Rattle.flow_ledger.specs.Flight.{flight_by, flight_of}
use Rattle.flow_ledger.specs.UnevenSteps.{StandAt}
use Rattle.flow_ledger.proofs.FlightLaws.{flight-at_one_step}
use Rattle.region_cut.specs.Cuttings.{region_at}
use Rattle.region_cut.proofs.Ranges.{filter_range_more}
use Rattle.region_cut.specs.Joins.{crosses}
use Rattle.snapshot.specs.RunLaws.{cell_step}
use Rattle.snapshot.specs.Shots.{flights_crossing}

-- the cells of a connector that crosses no border are of one region
one-region : (cut : List ℕ) (connector : Connector) (i j : ℕ) → crosses cut connector ≡ false → Contains (cells_of connector) i → Contains (cells_of connector) j →
    region_at cut i ≡ region_at cut j
one-region cut connector i j inside first second = elim (cases_eq (region_at cut i) (region_at cut j)) [
  | inl same ↦ same
  | inr other ↦
      let cells : List ℕ = cells_of connector in
      let differs : ℕ → ℕ → Bool = λ i j. not (region_at cut i == region_at cut j) in
      let apart : differs i j ≡ true = rw (ne_eqb (region_at cut i) (region_at cut j) other) refl in
      let of_i : list_any (differs i) cells ≡ true =
      list_any_at (differs i) cells second.0 j second.1 (subst (λ cell. differs i cell ≡ true) (sym second.2) apart) in
      let crossed : crosses cut connector ≡ true =
      list_any_at (λ i. list_any (differs i) cells) cells first.0 i first.1
      (subst (λ cell. list_any (differs cell) cells ≡ true) (sym first.2) of_i) in
      absurd cc
]

-- nothing is under way there
pub nothing-inside : (net : Network) (cut steps : List ℕ) (rows : List Row) (k : ℕ) → IsNetwork net → StandAt net (cell_step cut steps) rows → k < length net.connectors →
    crosses cut (connector_at net.connectors k) ≡ false → flight_of net rows k ≡ pos 0
nothing-inside net cut steps rows k sound stand there inside =
    let connector : Connector = connector_at net.connectors k in
    let cells : List ℕ = cells_of connector in
    let first : ℕ = get_or cells 0 0 in
    flight-at_one_step net rows k sound there (cell_step cut steps) (cell_step cut steps first) stand
    (λ m d within.
    let starts : Contains cells first = Contains-get_or cells 0 0 (omega (arith, within)) in
    ap (λ r. slice_index steps r) (one-region cut connector (get_or cells m d) first inside (Contains-get_or cells m d within) starts))

-- so what is under way at the others is all that is: among so many first connectors
abbrev pub IsAllOf : Network → (cut : List ℕ) → List Row → (count : ℕ) → Type 0
IsAllOf net cut rows count =
    fold (λ sum k. sum +ℤ flight_of net rows k) (pos 0) (filter (λ k. crosses cut (connector_at net.connectors k)) (range_with_len 0 count)) ≡
    fold (λ sum connector. sum +ℤ flight_by rows connector) (pos 0) (take count net.connectors)

-- and one more
flights-more : (net : Network) (cut : List ℕ) (rows : List Row) (k : ℕ) → k < length net.connectors →
    (crosses cut (connector_at net.connectors k) ≡ false → flight_of net rows k ≡ pos 0) → IsAllOf net cut rows k → IsAllOf net cut rows (k + 1)
flights-more net cut rows k there inside earlier =
    let test : ℕ → Bool = λ j. crosses cut (connector_at net.connectors j) in
    let before : List ℕ = filter test (range_with_len 0 k) in
    let add : ℤ → ℕ → ℤ = λ sum j. sum +ℤ flight_of net rows j in
    let add_by : ℤ → Connector → ℤ = λ sum connector. sum +ℤ flight_by rows connector in
    let right : fold add_by (pos 0) (take (k + 1) net.connectors) ≡ fold add_by (pos 0) (take k net.connectors) +ℤ flight_of net rows k =
    ap (fold add_by (pos 0)) (take_more net.connectors k (Link 0 0) there) ∙ fold-append add_by (pos 0) (take k net.connectors) (connector_at net.connectors k ∷ []) in
    ap (fold add (pos 0)) (filter_range_more test k) ∙ elim (cases_Bool (test k)) [
      | inl passes ↦
          ap (λ b. fold add (pos 0) (before ++ cond b (k ∷ []) [])) passes ∙ fold-append add (pos 0) before (k ∷ []) ∙ ap (λ sum. sum +ℤ flight_of net rows k) earlier ∙ sym right
      | inr fails ↦
          ap (λ b. fold add (pos 0) (before ++ cond b (k ∷ []) [])) fails ∙ ap (fold add (pos 0)) (append-nil before) ∙ omega (arith, ints, earlier, right, inside fails)
    ]

flights-before : (net : Network) (cut : List ℕ) (rows : List Row) (count : ℕ) → count ≤ length net.connectors →
    ((k : ℕ) → k < length net.connectors → crosses cut (connector_at net.connectors k) ≡ false → flight_of net rows k ≡ pos 0) → IsAllOf net cut rows count
flights-before net cut rows zero few inside = refl
flights-before net cut rows (suc k) few inside =
    let there : k < length net.connectors = omega (arith, few) in
    let next : k + 1 ≡ suc k = omega arith in
    subst (IsAllOf net cut rows) next (flights-more net cut rows k there (inside k there) (flights-before net cut rows k (omega (arith, few)) inside))

pub flights-crossing : (net : Network) (cut steps : List ℕ) (rows : List Row) → IsNetwork net → StandAt net (cell_step cut steps) rows →
    flights_crossing net cut rows ≡ (books_of net rows).flight
unfolding flights_crossing books_of flights_of
flights-crossing net cut steps rows sound stand =
    let count : ℕ = length net.connectors in
    flights-before net cut rows count (omega arith) (λ k there inside. nothing-inside net cut steps rows k sound stand there inside) ∙
    ap (fold (λ sum connector. sum +ℤ flight_by rows connector) (pos 0)) (take_all count net.connectors (omega arith))

-- Where connectors, cells and regions meet: what the tests of a cut network say of each other.
use Rattle.std.specs.Prelude.{not, ◌==◌, ◌&&◌}
use Rattle.std.specs.List.{Contains, list_any}
use Rattle.std.proofs.Common.{◌≡◌, ◌≢◌, ℕ, ◌<◌, inl, inr, true, List, length, refl, sym, ◌∙◌}
use Rattle.std.proofs.lemmas.Bool.{cases_Bool, eq-eqb, eqb-true}
use Rattle.network_file.specs.Connectors.{are_joined, cells_of, touches}
use Rattle.network_file.specs.Network.{Network}
use Rattle.network_file.specs.Sound.{IsNetwork}
use Rattle.network_file.specs.declared.connector.Connector.{Connector}
use Rattle.region_cut.specs.Cuttings.{region_at}
use Rattle.region_cut.specs.Joins.{crosses}
use Rattle.region_cut.specs.Neighbours.{are_neighbours, is_border, is_halo, touches_region}
use Rattle.region_cut.specs.Gathered.{leaves_region}
use Rattle.region_cut.proofs.Anys.{Contains-from_test, apart, both, false_from_not, finds, first_of_both, found, not_false, not_same, second_of_both, test_from_Contains}
use Rattle.region_cut.proofs.ConnectorCells.{touches-there}

-- a connector that touches a cell touches its region, and leaves each other region

pub touches-touches_region : (cut : List ℕ) (r i : ℕ) (connector : Connector) → touches i connector ≡ true → region_at cut i ≡ r → touches_region cut r connector ≡ true
touches-touches_region cut r i connector touched is =
    finds (λ j. region_at cut j == r) (cells_of connector) i (Contains-from_test (cells_of connector) i touched) (eq-eqb (region_at cut i) r is)

pub touches-leaves_region : (cut : List ℕ) (r i : ℕ) (connector : Connector) → touches i connector ≡ true → region_at cut i ≢ r → leaves_region cut r connector ≡ true
touches-leaves_region cut r i connector touched differ =
    finds (λ j. not (region_at cut j == r)) (cells_of connector) i (Contains-from_test (cells_of connector) i touched)
    (not_false (region_at cut i == r) (apart (region_at cut i) r differ))

-- where it touches a region it touches a cell of it
pub touches_region-cell : (cut : List ℕ) (r : ℕ) (connector : Connector) → touches_region cut r connector ≡ true → (i : ℕ) × (touches i connector ≡ true) × (region_at cut i ≡ r)
touches_region-cell cut r connector touched =
    let here = found (λ j. region_at cut j == r) (cells_of connector) touched in
    (here.0, test_from_Contains (cells_of connector) here.0 here.1, eqb-true (region_at cut here.0) r here.2)

-- neighbours, by a connector
pub neighbours-from : (connectors : List Connector) (cut : List ℕ) (r q : ℕ) (connector : Connector) → Contains connectors connector → r ≢ q →
    touches_region cut r connector ≡ true → touches_region cut q connector ≡ true → are_neighbours connectors cut r q ≡ true
neighbours-from connectors cut r q connector has differ first second =
    both (not (r == q)) (list_any (λ c. touches_region cut r c && touches_region cut q c) connectors) (not_false (r == q) (apart r q differ))
    (finds (λ c. touches_region cut r c && touches_region cut q c) connectors connector has
    (both (touches_region cut r connector) (touches_region cut q connector) first second))

pub record IsMeeting (connectors : List Connector) (cut : List ℕ) (r q : ℕ) : Type 0 where
  pub connector : Connector
  pub has : Contains connectors connector
  pub differ : r ≢ q
  pub first : touches_region cut r connector ≡ true
  pub second : touches_region cut q connector ≡ true

pub neighbours-by : (connectors : List Connector) (cut : List ℕ) (r q : ℕ) → are_neighbours connectors cut r q ≡ true → IsMeeting connectors cut r q
neighbours-by connectors cut r q near =
    let any = second_of_both (not (r == q)) (list_any (λ c. touches_region cut r c && touches_region cut q c) connectors) near in
    let here = found (λ c. touches_region cut r c && touches_region cut q c) connectors any in
    record {
      connector = here.0;
      has = here.1;
      differ = not_same r q (false_from_not (r == q) (first_of_both (not (r == q)) (list_any (λ c. touches_region cut r c && touches_region cut q c) connectors) near));
      first = first_of_both (touches_region cut r here.0) (touches_region cut q here.0) here.2;
      second = second_of_both (touches_region cut r here.0) (touches_region cut q here.0) here.2;
    }

-- each is the other's
pub neighbours-sym : (connectors : List Connector) (cut : List ℕ) (r q : ℕ) → are_neighbours connectors cut r q ≡ true → are_neighbours connectors cut q r ≡ true
neighbours-sym connectors cut r q near =
    let by = neighbours-by connectors cut r q near in
    neighbours-from connectors cut q r by.connector by.has (λ same. by.differ (sym same)) by.second by.first

-- a connector that touches a region crosses exactly where it leaves it
pub crosses-from : (cut : List ℕ) (r i : ℕ) (connector : Connector) → touches i connector ≡ true → region_at cut i ≡ r → leaves_region cut r connector ≡ true → crosses cut connector ≡ true
crosses-from cut r i connector touched is leaves =
    let cells = cells_of connector in
    let out = found (λ j. not (region_at cut j == r)) cells leaves in
    let differ = apart (region_at cut i) (region_at cut out.0) (λ same. not_same _ r (false_from_not (region_at cut out.0 == r) out.2) (sym same ∙ is)) in
    finds (λ j. list_any (λ k. not (region_at cut j == region_at cut k)) cells) cells i (Contains-from_test cells i touched)
    (finds (λ k. not (region_at cut i == region_at cut k)) cells out.0 out.1 (not_false _ differ))

pub crosses-leaves_region : (cut : List ℕ) (r : ℕ) (connector : Connector) → crosses cut connector ≡ true → leaves_region cut r connector ≡ true
crosses-leaves_region cut r connector crossed =
    let cells = cells_of connector in
    let one = found (λ j. list_any (λ k. not (region_at cut j == region_at cut k)) cells) cells crossed in
    let other = found (λ k. not (region_at cut one.0 == region_at cut k)) cells one.2 in
    elim (cases_Bool (region_at cut one.0 == r)) [
      | inl is ↦
          let differ = false_from_not (region_at cut one.0 == region_at cut other.0) other.2 in
          touches-leaves_region cut r other.0 connector (test_from_Contains cells other.0 other.1) (λ same. not_same _ _ differ (eqb-true _ r is ∙ sym same))
      | inr differs ↦ touches-leaves_region cut r one.0 connector (test_from_Contains cells one.0 one.1) (not_same _ r differs)
    ]

-- a border cell, by a connector
pub border-from : (connectors : List Connector) (cut : List ℕ) (i : ℕ) (connector : Connector) → Contains connectors connector → touches i connector ≡ true →
    crosses cut connector ≡ true → is_border connectors cut i ≡ true
border-from connectors cut i connector has touched crossed =
    finds (λ c. touches i c && crosses cut c) connectors connector has (both (touches i connector) (crosses cut connector) touched crossed)

pub border-by : (connectors : List Connector) (cut : List ℕ) (i : ℕ) → is_border connectors cut i ≡ true →
    (connector : Connector) × Contains connectors connector × (touches i connector ≡ true) × (crosses cut connector ≡ true)
border-by connectors cut i border =
    let here = found (λ c. touches i c && crosses cut c) connectors border in
    (here.0, here.1, first_of_both (touches i here.0) (crosses cut here.0) here.2, second_of_both (touches i here.0) (crosses cut here.0) here.2)

-- a cell of a halo, by a connector
pub halo-from : (connectors : List Connector) (cut : List ℕ) (r i : ℕ) (connector : Connector) → Contains connectors connector → touches i connector ≡ true →
    region_at cut i ≢ r → touches_region cut r connector ≡ true → is_halo connectors cut r i ≡ true
halo-from connectors cut r i connector has touched differ first =
    both (not (region_at cut i == r)) (list_any (λ c. touches i c && touches_region cut r c) connectors) (not_false (region_at cut i == r) (apart (region_at cut i) r differ))
    (finds (λ c. touches i c && touches_region cut r c) connectors connector has (both (touches i connector) (touches_region cut r connector) touched first))

pub record IsMet (connectors : List Connector) (cut : List ℕ) (r i : ℕ) : Type 0 where
  pub connector : Connector
  pub has : Contains connectors connector
  pub touched : touches i connector ≡ true
  pub differ : region_at cut i ≢ r
  pub first : touches_region cut r connector ≡ true

pub halo-by : (connectors : List Connector) (cut : List ℕ) (r i : ℕ) → is_halo connectors cut r i ≡ true → IsMet connectors cut r i
halo-by connectors cut r i met =
    let any = second_of_both (not (region_at cut i == r)) (list_any (λ c. touches i c && touches_region cut r c) connectors) met in
    let here = found (λ c. touches i c && touches_region cut r c) connectors any in
    record {
      connector = here.0;
      has = here.1;
      touched = first_of_both (touches i here.0) (touches_region cut r here.0) here.2;
      differ = not_same (region_at cut i) r (false_from_not (region_at cut i == r) (first_of_both (not (region_at cut i == r)) (list_any (λ c. touches i c && touches_region cut r c) connectors) met));
      first = second_of_both (touches i here.0) (touches_region cut r here.0) here.2;
    }

-- a cell of a halo lies in a neighbour, and is a border cell there
pub halo-neighbours : (connectors : List Connector) (cut : List ℕ) (r i : ℕ) → is_halo connectors cut r i ≡ true → are_neighbours connectors cut r (region_at cut i) ≡ true
halo-neighbours connectors cut r i met =
    let by = halo-by connectors cut r i met in
    neighbours-from connectors cut r (region_at cut i) by.connector by.has (λ same. by.differ (sym same)) by.first
    (touches-touches_region cut (region_at cut i) i by.connector by.touched refl)

pub halo-border : (connectors : List Connector) (cut : List ℕ) (r i : ℕ) → is_halo connectors cut r i ≡ true → is_border connectors cut i ≡ true
halo-border connectors cut r i met =
    let by = halo-by connectors cut r i met in
    let cell = touches_region-cell cut r by.connector by.first in
    border-from connectors cut i by.connector by.has by.touched
    (crosses-from cut r cell.0 by.connector cell.1 cell.2 (touches-leaves_region cut r i by.connector by.touched by.differ))

-- neighbours have a cell of each in the other's halo
pub neighbours-halo : (net : Network) (cut : List ℕ) (r q : ℕ) → IsNetwork net → are_neighbours net.connectors cut r q ≡ true →
    (i : ℕ) × (i < length net.cells) × (region_at cut i ≡ q) × (is_halo net.connectors cut r i ≡ true)
neighbours-halo net cut r q sound near =
    let by = neighbours-by net.connectors cut r q near in
    let cell = touches_region-cell cut q by.connector by.second in (
      cell.0,
      touches-there net by.connector cell.0 sound by.has cell.1,
      cell.2,
      halo-from net.connectors cut r cell.0 by.connector by.has cell.1 (λ same. by.differ (sym same ∙ cell.2)) by.first,
    )

-- cells that share a connector, of different regions

joined-by : (connectors : List Connector) (i j : ℕ) → are_joined connectors i j ≡ true →
    (connector : Connector) × Contains connectors connector × (touches i connector ≡ true) × (touches j connector ≡ true)
joined-by connectors i j joined =
    let here = found (λ c. touches i c && touches j c) connectors joined in
    (here.0, here.1, first_of_both (touches i here.0) (touches j here.0) here.2, second_of_both (touches i here.0) (touches j here.0) here.2)

pub joined-halo : (connectors : List Connector) (cut : List ℕ) (i j : ℕ) → are_joined connectors i j ≡ true → region_at cut j ≢ region_at cut i →
    is_halo connectors cut (region_at cut i) j ≡ true
joined-halo connectors cut i j joined differ =
    let by = joined-by connectors i j joined in
    halo-from connectors cut (region_at cut i) j by.0 by.1 by.3 differ (touches-touches_region cut (region_at cut i) i by.0 by.2 refl)

pub joined-neighbours : (connectors : List Connector) (cut : List ℕ) (i j : ℕ) → are_joined connectors i j ≡ true → region_at cut j ≢ region_at cut i →
    are_neighbours connectors cut (region_at cut i) (region_at cut j) ≡ true
joined-neighbours connectors cut i j joined differ = halo-neighbours connectors cut (region_at cut i) j (joined-halo connectors cut i j joined differ)

pub joined-there : (net : Network) (i j : ℕ) → IsNetwork net → are_joined net.connectors i j ≡ true → (i < length net.cells) × (j < length net.cells)
joined-there net i j sound joined =
    let by = joined-by net.connectors i j joined in
    (touches-there net by.0 i sound by.1 by.2, touches-there net by.0 j sound by.1 by.3)

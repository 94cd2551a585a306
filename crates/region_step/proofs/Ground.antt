-- The lists of a region in a network's chart: its cells, its halo, its connectors, its border.
use Rattle.std.specs.Prelude.{All, eqb, not, map, slice_index, ◌^◌, ◌==◌}
use Rattle.std.specs.List.{Contains, filter, list_any, range_with_len}
use Rattle.std.proofs.Common.{◌≡◌, ℕ, zero, suc, ◌<◌, ◌≤◌, inl, inr, Bool, true, List, length, get_or, refl, sym, ap, subst, ◌∙◌, arith}
use Rattle.std.proofs.lemmas.Bool.{cases_Bool, cases_eq}
use Rattle.std.proofs.lemmas.List.{get_or-map, length-map}
use Rattle.std.proofs.lemmas.List.Elements.{Contains-get_or}
use Rattle.std.proofs.lemmas.List.Filters.{length-filter_both}
use Rattle.std.proofs.lemmas.List.FromFn.{length-range_with_len}
use Rattle.network_file.specs.Connectors.{cells_of, touches}
use Rattle.network_file.specs.Numbered.{connector_at}
use Rattle.network_file.specs.Network.{Network}
use Rattle.network_file.specs.Sound.{IsNetwork}
use Rattle.network_file.specs.declared.connector.Connector.{Connector}
use Rattle.network_file.specs.declared.connector.Connector.TheVariants.{Link, Merge, Diverge}
use Rattle.region_cut.specs.Chart.{ChartLists, border_of, cells_in, chart_of, connectors_of, halo_at, halo_of, list_at}
use Rattle.region_cut.specs.ConnectorCells.{three_cells}
use Rattle.region_cut.specs.Cuttings.{region_at, region_count}
use Rattle.region_cut.specs.Neighbours.{is_halo, touches_region}
use Rattle.region_cut.specs.declared.halo.Halo.{Halo}
use Rattle.region_cut.proofs.Anys.{Contains-from_test, test_from_Contains}
use Rattle.region_cut.proofs.ChartParts.{chart-border, chart-cells, chart-connectors, chart-halo}
use Rattle.network_file.proofs.NetworkFacts.{few_cells}
use Rattle.region_cut.proofs.ConnectorCells.{touches-there}
use Rattle.region_cut.proofs.Meetings.{halo-by, halo-from, touches-touches_region}
use Rattle.region_cut.proofs.Membership.{Contains-border_of, Contains-cells_in, Contains-connectors_of, Contains-halo_of, cells_in-Contains, cells_in-increasing, connectors_of-Contains, halo_of-Contains, halo_of-increasing}
use Rattle.region_step.specs.Apart.{AreApart}
use Rattle.region_step.specs.Opened.{halo_cells}
use Rattle.region_body.specs.Joining.{AreKnown, IsKnown}

-- what holds of the lists of region r
pub record IsGround (net : Network) (cut : List ℕ) (r : ℕ) (cells halo connectors border : List ℕ) : Type 0 where
  pub apart : AreApart cells halo
  pub own : (i : ℕ) → Contains cells i → (i < length net.cells) × (region_at cut i ≡ r)
  pub has : (i : ℕ) → i < length net.cells → region_at cut i ≡ r → Contains cells i
  pub met : (i : ℕ) → Contains halo i → (i < length net.cells) × (is_halo net.connectors cut r i ≡ true)
  pub meets : (i : ℕ) → i < length net.cells → is_halo net.connectors cut r i ≡ true → Contains halo i
  pub few : length cells < 2 ^ 32
  pub few_halo : length halo < 2 ^ 32
  pub there : All (λ k. k < length net.connectors) connectors
  pub known : All (λ k. AreKnown cells halo (connector_at net.connectors k)) connectors
  pub whole : (i k : ℕ) → Contains cells i → k < length net.connectors → touches i (connector_at net.connectors k) ≡ true → Contains connectors k
  pub touched : (i k : ℕ) → Contains cells i → touches i (connector_at net.connectors k) ≡ true → touches_region cut r (connector_at net.connectors k) ≡ true
  pub numbers : connectors ≡ filter (λ k. touches_region cut r (connector_at net.connectors k)) (range_with_len 0 (length net.connectors))
  pub inside : All (Contains cells) border

length-filter-le : {X : Type 0} (p : X → Bool) (xs : List X) → length (filter p xs) ≤ length xs
length-filter-le p xs = omega (arith, length-filter_both p (λ x. not (p x)) (λ x. refl) xs)

-- each of three cells is one of the connector's
three-listed : (connector : Connector) (m : ℕ) → m < 3 → Contains (cells_of connector) (slice_index (three_cells connector) m)
three-listed (Link up down) zero few = (0, omega arith, refl)
three-listed (Link up down) (suc zero) few = (1, omega arith, refl)
three-listed (Link up down) (suc (suc zero)) few = (1, omega arith, refl)
three-listed (Merge up1 up2 down p1 p2) zero few = (0, omega arith, refl)
three-listed (Merge up1 up2 down p1 p2) (suc zero) few = (1, omega arith, refl)
three-listed (Merge up1 up2 down p1 p2) (suc (suc zero)) few = (2, omega arith, refl)
three-listed (Diverge up down1 down2 b1 b2) zero few = (0, omega arith, refl)
three-listed (Diverge up down1 down2 b1 b2) (suc zero) few = (1, omega arith, refl)
three-listed (Diverge up down1 down2 b1 b2) (suc (suc zero)) few = (2, omega arith, refl)
three-listed connector (suc (suc (suc m))) few = absurd (omega arith)

three-touched : (connector : Connector) (m : ℕ) → m < 3 → touches (slice_index (three_cells connector) m) connector ≡ true
three-touched connector m few = test_from_Contains (cells_of connector) (slice_index (three_cells connector) m) (three-listed connector m few)

Contains-cells : (halo : List Halo) (i : ℕ) → Contains (map (λ other. other.cell) halo) i → (other : Halo) × Contains halo other × (other.cell ≡ i)
Contains-cells halo i has =
    let within : has.0 < length halo = omega (arith, has.1, length-map halo (λ other. other.cell)) in
    let blank : Halo = record { cell = 0; region = 0; place = 0 } in
    (get_or halo has.0 blank, Contains-get_or halo has.0 blank within, sym (get_or-map (λ other. other.cell) halo has.0 blank i within) ∙ has.2)

cells-Contains : (halo : List Halo) (other : Halo) → Contains halo other → Contains (map (λ h. h.cell) halo) other.cell
cells-Contains halo other has =
    (has.0, omega (arith, has.1, length-map halo (λ h. h.cell)), get_or-map (λ h. h.cell) halo has.0 other other.cell has.1 ∙ ap (λ h. h.cell) has.2)

halo-met : (net : Network) (cut : List ℕ) (r i : ℕ) → Contains (map (λ other. other.cell) (halo_of net cut r)) i → (i < length net.cells) × (is_halo net.connectors cut r i ≡ true)
halo-met net cut r i has =
    let here = Contains-cells (halo_of net cut r) i has in
    let met = Contains-halo_of net cut r here.0 here.1 in
    (rw here.2 at met.0, rw here.2 at met.1)

halo-meets : (net : Network) (cut : List ℕ) (r i : ℕ) → i < length net.cells → is_halo net.connectors cut r i ≡ true → Contains (map (λ other. other.cell) (halo_of net cut r)) i
halo-meets net cut r i there met = cells-Contains (halo_of net cut r) (halo_at net cut i) (halo_of-Contains net cut r i there met)

cell-known : (net : Network) (cut : List ℕ) (r k i : ℕ) → IsNetwork net → Contains (connectors_of net cut r) k → touches i (connector_at net.connectors k) ≡ true →
    IsKnown (cells_in net cut r) (map (λ other. other.cell) (halo_of net cut r)) i
cell-known net cut r k i sound has touched =
    let here = Contains-connectors_of net cut r k has in
    let connector : Connector = connector_at net.connectors k in
    let listed : Contains net.connectors connector = Contains-get_or net.connectors k (Link 0 0) here.0 in
    let there = touches-there net connector i sound listed touched in
    elim (cases_eq (region_at cut i) r) [
      | inl own ↦ inl (cells_in-Contains net cut r i there own)
      | inr other ↦ inr (halo-meets net cut r i there (halo-from net.connectors cut r i connector listed touched other here.1))
    ]

few-of-cells : (net : Network) (cut : List ℕ) (r : ℕ) → IsNetwork net → length (cells_in net cut r) < 2 ^ 32
unfolding cells_in
few-of-cells net cut r sound =
    omega (arith, few_cells net sound, length-filter-le (λ i. region_at cut i == r) (range_with_len 0 (length net.cells)), length-range_with_len 0 (length net.cells))

few-of-halo : (net : Network) (cut : List ℕ) (r : ℕ) → IsNetwork net → length (map (λ other. other.cell) (halo_of net cut r)) < 2 ^ 32
unfolding halo_of
few-of-halo net cut r sound =
    let met : List ℕ = filter (is_halo net.connectors cut r) (range_with_len 0 (length net.cells)) in
    omega (
      arith,
      few_cells net sound,
      length-map (map (halo_at net cut) met) (λ other. other.cell),
      length-map met (halo_at net cut),
      length-filter-le (is_halo net.connectors cut r) (range_with_len 0 (length net.cells)),
      length-range_with_len 0 (length net.cells),
    )

numbers-of : (net : Network) (cut : List ℕ) (r : ℕ) →
    connectors_of net cut r ≡ filter (λ k. touches_region cut r (connector_at net.connectors k)) (range_with_len 0 (length net.connectors))
unfolding connectors_of
numbers-of net cut r = refl

lists-ground : (net : Network) (cut : List ℕ) (r : ℕ) → IsNetwork net →
    IsGround net cut r (cells_in net cut r) (map (λ other. other.cell) (halo_of net cut r)) (connectors_of net cut r) (border_of net cut r)
lists-ground net cut r sound = record {
  apart = record {
    rising = cells_in-increasing net cut r;
    halo_rising = halo_of-increasing net cut r;
    apart = λ i own. elim (cases_Bool (list_any (eqb i) (map (λ other. other.cell) (halo_of net cut r)))) [
      | inl other ↦
          let met = halo-met net cut r i (Contains-from_test (map (λ other. other.cell) (halo_of net cut r)) i other) in
          absurd ((halo-by net.connectors cut r i met.1).differ ((Contains-cells_in net cut r i own).1))
      | inr none ↦ none
    ];
  };
  own = λ i has. Contains-cells_in net cut r i has;
  has = λ i there is. cells_in-Contains net cut r i there is;
  met = λ i has. halo-met net cut r i has;
  meets = λ i there met. halo-meets net cut r i there met;
  few = few-of-cells net cut r sound;
  few_halo = few-of-halo net cut r sound;
  there = λ j d within. (Contains-connectors_of net cut r _ (Contains-get_or (connectors_of net cut r) j d within)).0;
  known = λ j d within. record {
    each = λ m few. cell-known net cut r _ _ sound (Contains-get_or (connectors_of net cut r) j d within) (three-touched (connector_at net.connectors (get_or (connectors_of net cut r) j d)) m few);
  };
  whole = λ i k own there touched. connectors_of-Contains net cut r k there
      (touches-touches_region cut r i (connector_at net.connectors k) touched ((Contains-cells_in net cut r i own).1));
  touched = λ i k own touched. touches-touches_region cut r i (connector_at net.connectors k) touched ((Contains-cells_in net cut r i own).1);
  numbers = numbers-of net cut r;
  inside = λ j d within.
      let here = Contains-border_of net cut r _ (Contains-get_or (border_of net cut r) j d within) in
      cells_in-Contains net cut r _ here.0 here.1;
}

-- the lists of a region in the chart
pub ground : (net : Network) (cut : List ℕ) (chart : ChartLists) (r : ℕ) → IsNetwork net → chart ≡ chart_of net cut → r < region_count cut →
    IsGround net cut r (list_at chart.cells r) (halo_cells chart r) (list_at chart.connectors r) (list_at chart.border r)
ground net cut chart r sound is within =
    rw (chart-cells net cut chart r is within, chart-halo net cut chart r is within, chart-connectors net cut chart r is within, chart-border net cut chart r is within) (lists-ground net cut r sound)

-- the same of lists that were read from the chart
pub ground-read : (net : Network) (cut : List ℕ) (chart : ChartLists) (r : ℕ) (cells halo connectors border : List ℕ) → IsNetwork net → chart ≡ chart_of net cut → r < region_count cut →
    cells ≡ list_at chart.cells r → halo ≡ halo_cells chart r → connectors ≡ list_at chart.connectors r → border ≡ list_at chart.border r →
    IsGround net cut r cells halo connectors border
ground-read net cut chart r cells halo connectors border sound is within own around by edge = rw (own, around, by, edge) (ground net cut chart r sound is within)

-- its cells are among those of any list of one each
pub cells-within : {X : Type 0} (net : Network) (cut : List ℕ) (chart : ChartLists) (r : ℕ) (cells : List ℕ) (xs : List X) → IsNetwork net → chart ≡ chart_of net cut → r < region_count cut →
    cells ≡ list_at chart.cells r → length xs ≡ length net.cells → All (λ i. i < length xs) cells
cells-within net cut chart r cells xs sound is within own one_each = λ k d inside.
    let here = ground net cut chart r sound is within in
    let has : Contains (list_at chart.cells r) (get_or cells k d) = subst (λ list. Contains list (get_or cells k d)) own (Contains-get_or cells k d inside) in
    omega (arith, one_each, (here.own (get_or cells k d) has).0)

-- The lists that are gathered are those of the chart.
use Rattle.std.specs.Prelude.{not, ◌==◌, ◌&&◌}
use Rattle.std.specs.List.{Contains, filter, list_any, range_with_len}
use Rattle.std.proofs.Common.{◌≡◌, ℕ, true, List, length, sym, ap, subst, ◌∙◌}
use Rattle.std.proofs.lemmas.Bool.{eq-eqb, eqb-true}
use Rattle.std.proofs.lemmas.List.Elements.{filter_agree}
use Rattle.std.proofs.lemmas.List.Kept.{IsStrictlyIncreasing-filter}
use Rattle.network_file.specs.Connectors.{touches}
use Rattle.network_file.specs.Network.{Network}
use Rattle.network_file.specs.Sound.{IsNetwork}
use Rattle.network_file.specs.declared.connector.Connector.{Connector}
use Rattle.region_cut.specs.Chart.{border_of, halo_at, halo_of, neighbours_of}
use Rattle.region_cut.specs.Cuttings.{region_at, region_count}
use Rattle.region_cut.specs.Gathered.{inside, is_met, leaves_region, met_by, outside, halo_regions}
use Rattle.region_cut.specs.Neighbours.{are_neighbours, is_border, is_halo, touches_region}
use Rattle.region_cut.proofs.Anys.{apart, both, false_from_not, finds, first_of_both, found, not_false, not_same, same_tests, second_of_both}
use Rattle.region_cut.proofs.Meetings.{border-by, border-from, crosses-from, crosses-leaves_region, halo-by, halo-from, halo-neighbours, neighbours-halo, touches-leaves_region, touches-touches_region, touches_region-cell}
use Rattle.region_cut.proofs.Membership.{Contains-halo_of, halo_of-Contains}
use Rattle.region_cut.proofs.Ranges.{Contains-filter, Contains-filter_range, filter-Contains, filter_range-Contains, filter_range-increasing, filter_range_is}

met-from : (connectors : List Connector) (cut : List ℕ) (r i : ℕ) (connector : Connector) → Contains connectors connector → touches_region cut r connector ≡ true →
    leaves_region cut r connector ≡ true → touches i connector ≡ true → is_met connectors cut r i ≡ true
met-from connectors cut r i connector has first leaves touched =
    finds (λ c. touches_region cut r c && (leaves_region cut r c && touches i c)) connectors connector has
    (both (touches_region cut r connector) (leaves_region cut r connector && touches i connector) first (both (leaves_region cut r connector) (touches i connector) leaves touched))

record IsBy (connectors : List Connector) (cut : List ℕ) (r i : ℕ) : Type 0 where
  connector : Connector
  has : Contains connectors connector
  first : touches_region cut r connector ≡ true
  leaves : leaves_region cut r connector ≡ true
  touched : touches i connector ≡ true

met-by : (connectors : List Connector) (cut : List ℕ) (r i : ℕ) → is_met connectors cut r i ≡ true → IsBy connectors cut r i
met-by connectors cut r i met =
    let here = found (λ c. touches_region cut r c && (leaves_region cut r c && touches i c)) connectors met in
    let rest = second_of_both (touches_region cut r here.0) (leaves_region cut r here.0 && touches i here.0) here.2 in
    record {
      connector = here.0;
      has = here.1;
      first = first_of_both (touches_region cut r here.0) (leaves_region cut r here.0 && touches i here.0) here.2;
      leaves = first_of_both (leaves_region cut r here.0) (touches i here.0) rest;
      touched = second_of_both (leaves_region cut r here.0) (touches i here.0) rest;
    }

-- each is a border cell of its region
pub met-border : (connectors : List Connector) (cut : List ℕ) (r i : ℕ) → is_met connectors cut r i ≡ true → is_border connectors cut i ≡ true
met-border connectors cut r i met =
    let by = met-by connectors cut r i met in
    let here = touches_region-cell cut r by.connector by.first in
    border-from connectors cut i by.connector by.has by.touched (crosses-from cut r here.0 by.connector here.1 here.2 by.leaves)

-- of those met by a region, the cells that lie in it are its border
pub inside-met_by : (net : Network) (cut : List ℕ) (r : ℕ) → inside cut r (met_by net cut r) ≡ border_of net cut r
unfolding met_by border_of
inside-met_by net cut r =
    let cells : List ℕ = filter (is_met net.connectors cut r) (range_with_len 0 (length net.cells)) in
    filter_range_is (λ i. (region_at cut i == r) && is_border net.connectors cut i) (length net.cells) (inside cut r cells)
    (IsStrictlyIncreasing-filter (λ i. region_at cut i == r) cells (filter_range-increasing (is_met net.connectors cut r) (length net.cells)))
    (λ i has.
    let parts = Contains-filter (λ j. region_at cut j == r) cells i has in
    let passed = Contains-filter_range (is_met net.connectors cut r) (length net.cells) i parts.0 in
    (passed.0, both (region_at cut i == r) (is_border net.connectors cut i) parts.1 (met-border net.connectors cut r i passed.1)))
    (λ i within passes.
    let own = first_of_both (region_at cut i == r) (is_border net.connectors cut i) passes in
    let is : region_at cut i ≡ r = eqb-true (region_at cut i) r own in
    let by = border-by net.connectors cut i (second_of_both (region_at cut i == r) (is_border net.connectors cut i) passes) in
    filter-Contains (λ j. region_at cut j == r) cells i
    (filter_range-Contains (is_met net.connectors cut r) (length net.cells) i within
    (met-from net.connectors cut r i by.0 by.1 (touches-touches_region cut r i by.0 by.2 is) (crosses-leaves_region cut r by.0 by.3) by.2))
    own)

-- and the others are those of its halo
pub outside-met_by : (net : Network) (cut : List ℕ) (r : ℕ) → outside cut r (met_by net cut r) ≡ filter (is_halo net.connectors cut r) (range_with_len 0 (length net.cells))
unfolding met_by
outside-met_by net cut r =
    let cells : List ℕ = filter (is_met net.connectors cut r) (range_with_len 0 (length net.cells)) in
    filter_range_is (is_halo net.connectors cut r) (length net.cells) (outside cut r cells)
    (IsStrictlyIncreasing-filter (λ i. not (region_at cut i == r)) cells (filter_range-increasing (is_met net.connectors cut r) (length net.cells)))
    (λ i has.
    let parts = Contains-filter (λ j. not (region_at cut j == r)) cells i has in
    let passed = Contains-filter_range (is_met net.connectors cut r) (length net.cells) i parts.0 in
    let by = met-by net.connectors cut r i passed.1 in
    (passed.0, halo-from net.connectors cut r i by.connector by.has by.touched (not_same (region_at cut i) r (false_from_not (region_at cut i == r) parts.1)) by.first))
    (λ i within passes.
    let by = halo-by net.connectors cut r i passes in
    filter-Contains (λ j. not (region_at cut j == r)) cells i
    (filter_range-Contains (is_met net.connectors cut r) (length net.cells) i within
    (met-from net.connectors cut r i by.connector by.has by.first (touches-leaves_region cut r i by.connector by.touched by.differ) by.touched))
    (not_false (region_at cut i == r) (apart (region_at cut i) r by.differ)))

-- the regions that a halo names are the neighbours
pub halo_regions-halo_of : (net : Network) (cut : List ℕ) (r : ℕ) → IsNetwork net → halo_regions (region_count cut) (halo_of net cut r) ≡ neighbours_of net cut r
unfolding halo_regions neighbours_of
halo_regions-halo_of net cut r sound =
    filter_agree (λ q. list_any (λ halo. halo.region == q) (halo_of net cut r)) (are_neighbours net.connectors cut r)
    (λ q. same_tests (list_any (λ halo. halo.region == q) (halo_of net cut r)) (are_neighbours net.connectors cut r q)
    (λ any.
    let here = found (λ halo. halo.region == q) (halo_of net cut r) any in
    let is = Contains-halo_of net cut r here.0 here.1 in
    let region : region_at cut here.0.cell ≡ q = sym (ap (λ halo. halo.region) is.2) ∙ eqb-true here.0.region q here.2 in
    subst (λ p. are_neighbours net.connectors cut r p ≡ true) region (halo-neighbours net.connectors cut r here.0.cell is.1))
    (λ near.
    let cell = neighbours-halo net cut r q sound near in
    finds (λ halo. halo.region == q) (halo_of net cut r) (halo_at net cut cell.0) (halo_of-Contains net cut r cell.0 cell.1 cell.3)
    (eq-eqb (region_at cut cell.0) q cell.2)))
    (range_with_len 0 (region_count cut))

-- What is in each list of a chart, and that each list rises.
use Rattle.std.specs.Prelude.{◌==◌, ◌&&◌, slice_index}
use Rattle.std.specs.List.{Contains, filter, position_or_len, range_with_len}
use Rattle.std.specs.List.Sorted.{IsStrictlyIncreasing}
use Rattle.std.proofs.Common.{◌≡◌, ℕ, ◌<◌, true, List, [], ◌∷◌, length, map, get_or, refl, sym, ap, subst, ◌∙◌, arith}
use Rattle.std.proofs.lemmas.Bool.{eq-eqb, eqb-true}
use Rattle.std.proofs.lemmas.List.{get_or-map, get_or_default, length-map}
use Rattle.network_file.specs.Numbered.{connector_at}
use Rattle.network_file.specs.Network.{Network}
use Rattle.region_cut.specs.Chart.{border_of, cells_in, connectors_of, halo_at, halo_of, neighbours_of}
use Rattle.region_cut.specs.Cuttings.{region_at, region_count}
use Rattle.region_cut.specs.Neighbours.{are_neighbours, is_border, is_halo, touches_region}
use Rattle.region_cut.specs.declared.halo.Halo.{Halo}
use Rattle.region_cut.proofs.Anys.{both, first_of_both, second_of_both}
use Rattle.region_cut.proofs.Cuttings.{at-le-greatest}
use Rattle.region_cut.proofs.Increasing.{position_is}
use Rattle.region_cut.proofs.Ranges.{Contains-filter_range, filter_range-Contains, filter_range-increasing}

-- the region of a cell is one of the regions
pub region_at-there : (cut : List ℕ) (i : ℕ) → region_at cut i < region_count cut
region_at-there cut i = omega (arith, at-le-greatest cut i)

-- cells

pub cells_in-Contains : (net : Network) (cut : List ℕ) (r i : ℕ) → i < length net.cells → region_at cut i ≡ r → Contains (cells_in net cut r) i
unfolding cells_in
cells_in-Contains net cut r i there is = filter_range-Contains (λ j. region_at cut j == r) (length net.cells) i there (eq-eqb (region_at cut i) r is)

pub Contains-cells_in : (net : Network) (cut : List ℕ) (r i : ℕ) → Contains (cells_in net cut r) i → (i < length net.cells) × (region_at cut i ≡ r)
unfolding cells_in
Contains-cells_in net cut r i has =
    let here = Contains-filter_range (λ j. region_at cut j == r) (length net.cells) i has in
    (here.0, eqb-true (region_at cut i) r here.1)

pub cells_in-increasing : (net : Network) (cut : List ℕ) (r : ℕ) → IsStrictlyIncreasing (cells_in net cut r)
unfolding cells_in
cells_in-increasing net cut r = filter_range-increasing (λ j. region_at cut j == r) (length net.cells)

-- neighbours

pub neighbours_of-Contains : (net : Network) (cut : List ℕ) (r q : ℕ) → q < region_count cut → are_neighbours net.connectors cut r q ≡ true → Contains (neighbours_of net cut r) q
unfolding neighbours_of
neighbours_of-Contains net cut r q there near = filter_range-Contains (are_neighbours net.connectors cut r) (region_count cut) q there near

pub Contains-neighbours_of : (net : Network) (cut : List ℕ) (r q : ℕ) → Contains (neighbours_of net cut r) q → (q < region_count cut) × (are_neighbours net.connectors cut r q ≡ true)
unfolding neighbours_of
Contains-neighbours_of net cut r q has = Contains-filter_range (are_neighbours net.connectors cut r) (region_count cut) q has

pub neighbours_of-increasing : (net : Network) (cut : List ℕ) (r : ℕ) → IsStrictlyIncreasing (neighbours_of net cut r)
unfolding neighbours_of
neighbours_of-increasing net cut r = filter_range-increasing (are_neighbours net.connectors cut r) (region_count cut)

-- border cells

pub border_of-Contains : (net : Network) (cut : List ℕ) (r i : ℕ) → i < length net.cells → region_at cut i ≡ r → is_border net.connectors cut i ≡ true → Contains (border_of net cut r) i
unfolding border_of
border_of-Contains net cut r i there is border =
    filter_range-Contains (λ j. (region_at cut j == r) && is_border net.connectors cut j) (length net.cells) i there
    (both (region_at cut i == r) (is_border net.connectors cut i) (eq-eqb (region_at cut i) r is) border)

pub Contains-border_of : (net : Network) (cut : List ℕ) (r i : ℕ) → Contains (border_of net cut r) i →
    (i < length net.cells) × (region_at cut i ≡ r) × (is_border net.connectors cut i ≡ true)
unfolding border_of
Contains-border_of net cut r i has =
    let here = Contains-filter_range (λ j. (region_at cut j == r) && is_border net.connectors cut j) (length net.cells) i has in (
      here.0,
      eqb-true (region_at cut i) r (first_of_both (region_at cut i == r) (is_border net.connectors cut i) here.1),
      second_of_both (region_at cut i == r) (is_border net.connectors cut i) here.1,
    )

pub border_of-increasing : (net : Network) (cut : List ℕ) (r : ℕ) → IsStrictlyIncreasing (border_of net cut r)
unfolding border_of
border_of-increasing net cut r = filter_range-increasing (λ j. (region_at cut j == r) && is_border net.connectors cut j) (length net.cells)

-- connectors

pub connectors_of-Contains : (net : Network) (cut : List ℕ) (r k : ℕ) → k < length net.connectors → touches_region cut r (connector_at net.connectors k) ≡ true →
    Contains (connectors_of net cut r) k
unfolding connectors_of
connectors_of-Contains net cut r k there touched = filter_range-Contains (λ j. touches_region cut r (connector_at net.connectors j)) (length net.connectors) k there touched

pub Contains-connectors_of : (net : Network) (cut : List ℕ) (r k : ℕ) → Contains (connectors_of net cut r) k →
    (k < length net.connectors) × (touches_region cut r (connector_at net.connectors k) ≡ true)
unfolding connectors_of
Contains-connectors_of net cut r k has = Contains-filter_range (λ j. touches_region cut r (connector_at net.connectors j)) (length net.connectors) k has

pub connectors_of-increasing : (net : Network) (cut : List ℕ) (r : ℕ) → IsStrictlyIncreasing (connectors_of net cut r)
unfolding connectors_of
connectors_of-increasing net cut r = filter_range-increasing (λ j. touches_region cut r (connector_at net.connectors j)) (length net.connectors)

-- the halo

map-Contains : {X Y : Type 0} (f : X → Y) (xs : List X) (x : X) → Contains xs x → Contains (map f xs) (f x)
map-Contains f xs x has = (has.0, rw length-map has.1, get_or-map f xs has.0 x (f x) has.1 ∙ ap f has.2)

Contains-map : {X Y : Type 0} (f : X → Y) (d : X) (xs : List X) (y : Y) → Contains (map f xs) y → (x : X) × Contains xs x × (f x ≡ y)
Contains-map f d xs y has =
    let within : has.0 < length xs = rw length-map at has.1 in
    (get_or xs has.0 d, (has.0, within, get_or_default xs has.0 (get_or xs has.0 d) d within), sym (get_or-map f xs has.0 d y within) ∙ has.2)

pub halo_of-Contains : (net : Network) (cut : List ℕ) (r i : ℕ) → i < length net.cells → is_halo net.connectors cut r i ≡ true → Contains (halo_of net cut r) (halo_at net cut i)
unfolding halo_of
halo_of-Contains net cut r i there met =
    map-Contains (halo_at net cut) (filter (is_halo net.connectors cut r) (range_with_len 0 (length net.cells))) i
    (filter_range-Contains (is_halo net.connectors cut r) (length net.cells) i there met)

pub Contains-halo_of : (net : Network) (cut : List ℕ) (r : ℕ) (halo : Halo) → Contains (halo_of net cut r) halo →
    (halo.cell < length net.cells) × (is_halo net.connectors cut r halo.cell ≡ true) × (halo ≡ halo_at net cut halo.cell)
unfolding halo_of
Contains-halo_of net cut r halo has =
    let here = Contains-map (halo_at net cut) 0 (filter (is_halo net.connectors cut r) (range_with_len 0 (length net.cells))) halo has in
    let cell : here.0 ≡ halo.cell = ap (λ other. other.cell) here.2 in
    let passed = Contains-filter_range (is_halo net.connectors cut r) (length net.cells) here.0 here.1 in
    (rw (← cell) passed.0, rw (← cell) passed.1, sym here.2 ∙ ap (halo_at net cut) cell)

cells_of_halo : (net : Network) (cut : List ℕ) (cells : List ℕ) → map (λ other. other.cell) (map (halo_at net cut) cells) ≡ cells
cells_of_halo net cut [] = refl
cells_of_halo net cut (i ∷ cells) = ap (λ rest. i ∷ rest) (cells_of_halo net cut cells)

pub halo_of-increasing : (net : Network) (cut : List ℕ) (r : ℕ) → IsStrictlyIncreasing (map (λ other. other.cell) (halo_of net cut r))
unfolding halo_of
halo_of-increasing net cut r =
    subst IsStrictlyIncreasing (sym (cells_of_halo net cut (filter (is_halo net.connectors cut r) (range_with_len 0 (length net.cells)))))
    (filter_range-increasing (is_halo net.connectors cut r) (length net.cells))

-- a place in an increasing list that has the number
pub place-in : (xs : List ℕ) (i : ℕ) → IsStrictlyIncreasing xs → Contains xs i →
    (position_or_len (λ j. j == i) xs < length xs) × (slice_index xs (position_or_len (λ j. j == i) xs) ≡ i)
place-in xs i up has =
    let stands : get_or xs has.0 0 ≡ i = get_or_default xs has.0 0 i has.1 ∙ has.2 in
    let place : position_or_len (λ j. j == i) xs ≡ has.0 = position_is xs has.0 i up has.1 stands in
    (rw place has.1, rw place stands)

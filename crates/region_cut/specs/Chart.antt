-- The chart of a network that is cut: lists for each region, each in ascending order.
use Rattle.std.specs.Prelude.{◌≡◌, ◌≢◌, ℕ, ◌==◌, ◌&&◌, ◌<◌, List, [], length, map, slice_index, slice_index_or}
use Rattle.std.specs.List.{Contains, filter, position_or_len, range_with_len}
use Rattle.std.specs.List.Sorted.{IsStrictlyIncreasing}
use Rattle.network_file.specs.Numbered.{connector_at}
use Rattle.network_file.specs.Cutting.{IsCutting}
use Rattle.network_file.specs.Network.{Network}
use Rattle.region_cut.specs.Cuttings.{region_at, region_count}
use Rattle.region_cut.specs.Neighbours.{are_neighbours, is_border, is_halo, touches_region}
use Rattle.region_cut.specs.declared.halo.Halo.{Halo}

-- the cells of region r
unfoldable pub cells_in : Network → (cut : List ℕ) → (r : ℕ) → List ℕ
cells_in net cut r = filter (λ i. region_at cut i == r) (range_with_len 0 (length net.cells))

-- its neighbours
unfoldable pub neighbours_of : Network → (cut : List ℕ) → (r : ℕ) → List ℕ
neighbours_of net cut r = filter (are_neighbours net.connectors cut r) (range_with_len 0 (region_count cut))

-- its border cells
unfoldable pub border_of : Network → (cut : List ℕ) → (r : ℕ) → List ℕ
border_of net cut r =
    filter (λ i. (region_at cut i == r) && is_border net.connectors cut i) (range_with_len 0 (length net.cells))

-- the connectors that touch it
unfoldable pub connectors_of : Network → (cut : List ℕ) → (r : ℕ) → List ℕ
connectors_of net cut r =
    filter (λ k. touches_region cut r (connector_at net.connectors k)) (range_with_len 0 (length net.connectors))

-- a cell of a halo, with its region and its place in that region's border
abbrev pub halo_at : Network → (cut : List ℕ) → (i : ℕ) → Halo
halo_at net cut i =
    let region = region_at cut i in
    record { cell = i; region = region; place = position_or_len (λ j. j == i) (border_of net cut region) }

-- the halo of region r, in the order of its cells
unfoldable pub halo_of : Network → (cut : List ℕ) → (r : ℕ) → List Halo
halo_of net cut r = map (halo_at net cut) (filter (is_halo net.connectors cut r) (range_with_len 0 (length net.cells)))

-- a cutting and the lists of each of its regions
pub record ChartLists : Type 0 where
  -- the region of each cell
  pub cut : List ℕ
  pub cells : List (List ℕ)
  pub neighbours : List (List ℕ)
  pub border : List (List ℕ)
  pub connectors : List (List ℕ)
  pub halo : List (List Halo)

-- the chart of a network cut so
unfoldable pub chart_of : Network → (cut : List ℕ) → ChartLists
chart_of net cut =
    let regions = range_with_len 0 (region_count cut) in
    record {
      cut = cut;
      cells = map (cells_in net cut) regions;
      neighbours = map (neighbours_of net cut) regions;
      border = map (border_of net cut) regions;
      connectors = map (connectors_of net cut) regions;
      halo = map (halo_of net cut) regions;
    }

-- the list of region r among those of all regions
abbrev pub list_at : {X : Type 0} → List (List X) → (r : ℕ) → List X
list_at lists r = slice_index_or lists r []

-- what holds of the lists of region r in every chart
pub record IsRegion (chart : ChartLists) (r : ℕ) : Type 0 where
  pub cells : IsStrictlyIncreasing (list_at chart.cells r)
  pub neighbours : IsStrictlyIncreasing (list_at chart.neighbours r)
  pub border : IsStrictlyIncreasing (list_at chart.border r)
  pub connectors : IsStrictlyIncreasing (list_at chart.connectors r)
  pub halo : IsStrictlyIncreasing (map (λ halo. halo.cell) (list_at chart.halo r))
  -- a cell of the region is one that the cutting gives it
  pub own : (i : ℕ) → Contains (list_at chart.cells r) i → (i < length chart.cut) × (region_at chart.cut i ≡ r)
  -- a border cell is a cell of the region
  pub inside : (i : ℕ) → Contains (list_at chart.border r) i → Contains (list_at chart.cells r) i
  -- neighbours are other regions, and each the other's
  pub others : (q : ℕ) → Contains (list_at chart.neighbours r) q → (q < region_count chart.cut) × (q ≢ r) × Contains (list_at chart.neighbours q) r
  -- a halo cell is the border cell of a neighbour at its place
  pub met : (halo : Halo) → Contains (list_at chart.halo r) halo →
      Contains (list_at chart.neighbours r) halo.region × (region_at chart.cut halo.cell ≡ halo.region) ×
      (halo.place < length (list_at chart.border halo.region)) × (slice_index (list_at chart.border halo.region) halo.place ≡ halo.cell)

-- what holds of every chart
pub record IsChart (chart : ChartLists) : Type 0 where
  pub cutting : IsCutting (length chart.cut) chart.cut
  pub cells : length chart.cells ≡ region_count chart.cut
  pub neighbours : length chart.neighbours ≡ region_count chart.cut
  pub border : length chart.border ≡ region_count chart.cut
  pub connectors : length chart.connectors ≡ region_count chart.cut
  pub halo : length chart.halo ≡ region_count chart.cut
  pub regions : (r : ℕ) → r < region_count chart.cut → IsRegion chart r

-- a cell of a halo is there, and so is its place
pub record IsPlaced (chart : ChartLists) (halo : Halo) : Type 0 where
  pub cell : halo.cell < length chart.cut
  pub region : halo.region < region_count chart.cut
  pub place : halo.place < length (list_at chart.border halo.region)

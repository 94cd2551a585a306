-- The lists that are gathered on the way to a chart.
use Rattle.std.specs.Prelude.{◌≡◌, ℕ, ◌<◌, ◌^◌, Bool, true, not, ◌==◌, ◌&&◌, List, length}
use Rattle.std.specs.List.{filter, list_any, position_or_len, range_with_len}
use Rattle.network_file.specs.Connectors.{cells_of, touches}
use Rattle.network_file.specs.Network.{Network}
use Rattle.network_file.specs.declared.connector.Connector.{Connector}
use Rattle.region_cut.specs.Chart.{list_at}
use Rattle.region_cut.specs.Cuttings.{region_at}
use Rattle.region_cut.specs.Neighbours.{touches_region}
use Rattle.region_cut.specs.declared.halo.Halo.{Halo}

-- the connector touches a cell of another region than r
abbrev pub leaves_region : (cut : List ℕ) → (r : ℕ) → Connector → Bool
leaves_region cut r connector = list_any (λ i. not (region_at cut i == r)) (cells_of connector)

-- cell i is one of those of a connector that touches region r and leaves it
abbrev pub is_met : List Connector → (cut : List ℕ) → (r i : ℕ) → Bool
is_met connectors cut r i =
    list_any (λ connector. touches_region cut r connector && (leaves_region cut r connector && touches i connector)) connectors

-- all such cells
unfoldable pub met_by : Network → (cut : List ℕ) → (r : ℕ) → List ℕ
met_by net cut r = filter (is_met net.connectors cut r) (range_with_len 0 (length net.cells))

-- the cells of a list that lie in region r, and those that don't
abbrev pub inside : (cut : List ℕ) → (r : ℕ) → List ℕ → List ℕ
inside cut r cells = filter (λ i. region_at cut i == r) cells

abbrev pub outside : (cut : List ℕ) → (r : ℕ) → List ℕ → List ℕ
outside cut r cells = filter (λ i. not (region_at cut i == r)) cells

-- a cell with its region and its place in that region's border
abbrev pub placed : (cut : List ℕ) → (border : List (List ℕ)) → (i : ℕ) → Halo
placed cut border i =
    let region = region_at cut i in
    record { cell = i; region = region; place = position_or_len (λ j. j == i) (list_at border region) }

-- cell i has a region whose border has it
pub record CanPlace (cut : List ℕ) (border : List (List ℕ)) (i : ℕ) : Type 0 where
  pub there : i < length cut
  pub region : region_at cut i < length border
  pub few : length (list_at border (region_at cut i)) < 2 ^ 32
  pub listed : list_any (λ j. j == i) (list_at border (region_at cut i)) ≡ true

-- the regions below a count that a halo names
unfoldable pub halo_regions : (count : ℕ) → List Halo → List ℕ
halo_regions count halo = filter (λ q. list_any (λ halo. halo.region == q) halo) (range_with_len 0 count)

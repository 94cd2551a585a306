-- Which regions touch which cells, and which are neighbours.
use Rattle.std.specs.Prelude.{ℕ, Bool, not, ◌==◌, ◌&&◌, List}
use Rattle.std.specs.List.{list_any}
use Rattle.network_file.specs.Connectors.{cells_of, touches}
use Rattle.network_file.specs.declared.connector.Connector.{Connector}
use Rattle.region_cut.specs.Cuttings.{region_at}
use Rattle.region_cut.specs.Joins.{crosses}

-- the connector touches a cell of region r
abbrev pub touches_region : (cut : List ℕ) → (r : ℕ) → Connector → Bool
touches_region cut r connector = list_any (λ i. region_at cut i == r) (cells_of connector)

-- regions r and q are neighbours: two regions, of both of which one connector touches cells
abbrev pub are_neighbours : List Connector → (cut : List ℕ) → (r q : ℕ) → Bool
are_neighbours connectors cut r q =
    not (r == q) && list_any (λ connector. touches_region cut r connector && touches_region cut q connector) connectors

-- cell i is a border cell of its region: a connector that touches it touches another region too
abbrev pub is_border : List Connector → (cut : List ℕ) → (i : ℕ) → Bool
is_border connectors cut i = list_any (λ connector. touches i connector && crosses cut connector) connectors

-- cell i of another region is in the halo of region r: a connector touches it and a cell of r
abbrev pub is_halo : List Connector → (cut : List ℕ) → (r i : ℕ) → Bool
is_halo connectors cut r i =
    not (region_at cut i == r) && list_any (λ connector. touches i connector && touches_region cut r connector) connectors

-- Which connectors, regions and cells meet where a network is cut.
use Rattle.std.specs.Prelude.{ℕ, Bool, not, ◌==◌, List}
use Rattle.std.specs.List.{list_any}
use Rattle.network_file.specs.Connectors.{cells_of}
use Rattle.network_file.specs.declared.connector.Connector.{Connector}
use Rattle.region_cut.specs.Cuttings.{region_at}

-- the connector touches cells of more than one region
abbrev pub crosses : (cut : List ℕ) → Connector → Bool
crosses cut connector =
    list_any (λ i. list_any (λ j. not (region_at cut i == region_at cut j)) (cells_of connector)) (cells_of connector)

-- A connector by its number.
use Rattle.std.specs.Prelude.{ℕ, List, slice_index_or}
use Rattle.network_file.specs.declared.connector.Connector.{Connector}
use Rattle.network_file.specs.declared.connector.Connector.TheVariants.{Link}

-- the connector of this number
abbrev pub connector_at : List Connector → (k : ℕ) → Connector
connector_at connectors k = slice_index_or connectors k (Link 0 0)

-- The flight of a connector: what has gone out of its cells upstream and hasn't come into its cells downstream.
use Rattle.std.specs.Prelude.{ℕ, List, ℤ, pos, ◌-ℤ◌, sum_by}
use Rattle.network_file.specs.Connectors.{downstream_of, upstream_of}
use Rattle.network_file.specs.Numbered.{connector_at}
use Rattle.network_file.specs.Network.{Network}
use Rattle.network_file.specs.declared.connector.Connector.{Connector}
use Rattle.flow_model.specs.State.{row_at}
use Rattle.flow_model.specs.declared.row.Row.{Row}
use Rattle.flow_ledger.specs.Books.{come_of}

-- all that has gone out of cell i
abbrev pub gone_of : List Row → (i : ℕ) → ℕ
gone_of rows i = (row_at rows i).gone

-- the sum of `gone` of the cells upstream, less the sum of `come` of the cells downstream
unfoldable pub flight_by : List Row → Connector → ℤ
flight_by rows connector =
    pos (sum_by (gone_of rows) (upstream_of connector)) -ℤ pos (sum_by (come_of rows) (downstream_of connector))

-- the flight of connector k
abbrev pub flight_of : Network → List Row → (k : ℕ) → ℤ
flight_of net rows k = flight_by rows (connector_at net.connectors k)

-- The connectors of a plain region, and where it finds their cells.
use Rattle.std.specs.Prelude.{◌≡◌, ℕ, ◌<◌, All, List, length, map, slice_index, slice_index_or}
use Rattle.network_file.specs.Numbered.{connector_at}
use Rattle.network_file.specs.Network.{Network}
use Rattle.region_cut.specs.ConnectorCells.{three_cells}
use Rattle.plain_region.specs.declared.cell_ref.CellRef.{CellRef}
use Rattle.plain_region.specs.declared.cell_ref.CellRef.TheVariants.{Own, Halo}
use Rattle.plain_region.specs.declared.region_connector.RegionConnector.{RegionConnector}

-- cell i is found so, among the region's own and those of its halo
abbrev pub IsRefOf : (cells halo : List ℕ) → (i : ℕ) → CellRef → Type 0
IsRefOf cells halo i (Own p) = (p < length cells) × (slice_index cells p ≡ i)
IsRefOf cells halo i (Halo p) = (p < length halo) × (slice_index halo p ≡ i)

-- the m-th of a connector's cells
abbrev pub ref_at : RegionConnector → (m : ℕ) → CellRef
ref_at one m = slice_index_or one.cells m (Own 0)

-- the connector is one of the network, and each of its cells is found where it stands
pub record IsRegionConnector (net : Network) (cells halo : List ℕ) (one : RegionConnector) : Type 0 where
  pub there : one.number < length net.connectors
  pub refs : (m : ℕ) → m < 3 → IsRefOf cells halo (slice_index (three_cells (connector_at net.connectors one.number)) m) (ref_at one m)

-- the connectors of these numbers
pub record AreRegionConnectors (net : Network) (cells halo numbers : List ℕ) (connectors : List RegionConnector) : Type 0 where
  pub numbered : map (λ one. one.number) connectors ≡ numbers
  pub each : All (IsRegionConnector net cells halo) connectors

use Rattle.std.specs.Prelude.{All, map}
use Rattle.std.proofs.Common.{◌≡◌, take}
use Rattle.plain_region.specs.RegionConnectors.{IsRegionConnector}
use Rattle.plain_region.proofs.region_connector.connectors_of.Given as goal

abbrev pub invariant-loop-k : goal.invariant-loop-k
invariant-loop-k l = (map (λ one. one.number) l.connectors.items ≡ take l.k-index l.numbers) × All (IsRegionConnector l.net l.cells l.halo) l.connectors.items

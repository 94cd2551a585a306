-- A plain region as contracts see it.
use Rattle.std.specs.Prelude.{ℕ, List}
use Rattle.region_step.specs.Region.{RegionState}
use Rattle.plain_region.specs.declared.region_connector.RegionConnector.{RegionConnector}

-- what a plain region found out about the network when it was opened
pub record Body : Type 0 where
  -- its connectors, with where it finds their cells
  pub connectors : List RegionConnector
  -- the place of each border cell among its cells
  pub border : List ℕ

-- its state, as that of each region, and its body
pub record PlainValue : Type 0 where
  pub state : RegionState
  pub body : Body

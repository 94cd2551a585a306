-- A network that is cut, as contracts see it.
use Rattle.network_file.specs.Network.{Network}
use Rattle.region_cut.specs.Chart.{ChartLists}

pub record LayoutValue : Type 0 where
  pub net : Network
  -- the chart of one of its cuttings
  pub chart : ChartLists

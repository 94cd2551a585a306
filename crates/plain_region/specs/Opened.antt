-- A plain region that was opened with a network and its chart.
use Rattle.std.specs.Prelude.{◌≡◌, ◌<◌, ◌≤◌, length}
use Rattle.network_file.specs.Network.{Network}
use Rattle.region_cut.specs.Chart.{ChartLists, chart_of, list_at}
use Rattle.region_cut.specs.Cuttings.{region_count}
use Rattle.region_step.specs.Opened.{halo_cells}
use Rattle.plain_region.specs.RegionConnectors.{AreRegionConnectors}
use Rattle.region_step.specs.Opening.{ArePlaces}
use Rattle.plain_region.specs.Plain.{PlainValue}

-- the region is one of this chart
pub record IsOf (chart : ChartLists) (region : PlainValue) : Type 0 where
  pub there : region.state.number < region_count chart.cut
  pub rows : length region.state.rows ≡ length (list_at chart.cells region.state.number)
  pub before : length region.state.before ≡ length (list_at chart.cells region.state.number)
  pub put : length region.state.put ≡ length (list_at chart.halo region.state.number)
  -- each border cell's place among its cells
  pub border : ArePlaces (list_at chart.cells region.state.number) (list_at chart.border region.state.number) region.body.border

-- the region was opened with this network and this chart of it
pub record IsIn (net : Network) (chart : ChartLists) (region : PlainValue) : Type 0 where
  pub charted : chart ≡ chart_of net chart.cut
  pub one_of : IsOf chart region
  pub in_time : region.state.step ≤ net.steps
  pub connectors : AreRegionConnectors net (list_at chart.cells region.state.number) (halo_cells chart region.state.number)
      (list_at chart.connectors region.state.number) region.body.connectors

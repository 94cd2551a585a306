-- A region that was opened with a network and its chart.
use Rattle.std.specs.Prelude.{◌≡◌, ℕ, ◌+◌, ◌*◌, ◌<◌, ◌≤◌, List, length, map}
use Rattle.network_file.specs.Network.{Network}
use Rattle.region_cut.specs.Chart.{ChartLists, chart_of, list_at}
use Rattle.region_cut.specs.Cuttings.{region_count}
use Rattle.region_step.specs.Ordered.{AreOrdered, rows_in}
use Rattle.region_step.specs.Opening.{ArePlaces}
use Rattle.region_step.specs.Noting.{recorded_after}
use Rattle.region_step.specs.Region.{RegionValue}

-- the cells of a region's halo
abbrev pub halo_cells : ChartLists → (r : ℕ) → List ℕ
halo_cells chart r = map (λ halo. halo.cell) (list_at chart.halo r)

-- the region is one of this chart
pub record IsOf (chart : ChartLists) (region : RegionValue) : Type 0 where
  pub there : region.state.number < region_count chart.cut
  pub rows : length region.state.rows ≡ length (list_at chart.cells region.state.number)
  pub before : length region.state.before ≡ length (list_at chart.cells region.state.number)
  pub put : length region.state.put ≡ length (list_at chart.halo region.state.number)
  -- each border cell's place among its cells
  pub border : ArePlaces (list_at chart.cells region.state.number) (list_at chart.border region.state.number) region.body.border

-- the region was opened with this network and this chart of it
pub record IsIn (net : Network) (chart : ChartLists) (region : RegionValue) : Type 0 where
  pub charted : chart ≡ chart_of net chart.cut
  pub one_of : IsOf chart region
  pub in_time : region.state.step ≤ net.steps
  -- its cells are placed in their order at its step, and their states have its rows
  pub ordered : AreOrdered net (list_at chart.cells region.state.number) (halo_cells chart region.state.number)
      (list_at chart.connectors region.state.number) region.state.step region.body.ordered
  pub row_each : region.state.rows ≡ rows_in region.body.ordered
  -- there is room for all notes to come
  pub room : length region.state.trail +
      length (list_at chart.cells region.state.number) * recorded_after net.steps region.state.every region.state.step ≤ region.body.room

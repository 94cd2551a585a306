-- What a room shows of a network: the step of each region, and of each cell its row there and what it held a step before.
use Rattle.std.specs.Prelude.{◌≡◌, ◌≢◌, ℕ, ◌<◌, List, length, replicate, slice_index}
use Rattle.flow_model.specs.State.{row_at, state_at}
use Rattle.flow_model.specs.declared.row.Row.{Row}
use Rattle.network_file.specs.Network.{Network}
use Rattle.region_cut.specs.Chart.{ChartLists, list_at}
use Rattle.region_cut.specs.Cuttings.{region_at, region_count}
use Rattle.region_step.specs.Region.{RegionValue}

-- a step for each region, a row and an earlier occupancy for each cell in the order of the file
pub record RoomValue : Type 0 where
  pub steps : List ℕ
  pub rows : List Row
  pub earlier : List ℕ

-- the room has a place for each region and for each cell of a chart
pub record IsRoomFor (chart : ChartLists) (room : RoomValue) : Type 0 where
  pub steps : length room.steps ≡ region_count chart.cut
  pub rows : length room.rows ≡ length chart.cut
  pub earlier : length room.earlier ≡ length chart.cut

-- all regions at step 0
abbrev pub first_room : Network → ChartLists → RoomValue
first_room net chart = record {
  steps = replicate (region_count chart.cut) 0;
  rows = state_at net 0;
  earlier = replicate (length net.cells) 0;
}

-- cell p of region r, in the order of its cells
abbrev pub cell_of : ChartLists → (r p : ℕ) → ℕ
cell_of chart r p = slice_index (list_at chart.cells r) p

-- the room shows this region: its step, its rows, and what its cells held before
pub record ShowsRegion (chart : ChartLists) (room : RoomValue) (region : RegionValue) : Type 0 where
  pub step : slice_index room.steps region.state.number ≡ region.state.step
  pub rows : (p : ℕ) → p < length (list_at chart.cells region.state.number) → row_at room.rows (cell_of chart region.state.number p) ≡ row_at region.state.rows p
  pub earlier : (p : ℕ) → p < length (list_at chart.cells region.state.number) →
      slice_index room.earlier (cell_of chart region.state.number p) ≡ slice_index region.state.before p

-- what it shows of the other regions stays
pub record StaysBeside (chart : ChartLists) (old new : RoomValue) (r : ℕ) : Type 0 where
  pub steps : (q : ℕ) → q ≢ r → slice_index new.steps q ≡ slice_index old.steps q
  pub rows : (i : ℕ) → region_at chart.cut i ≢ r → row_at new.rows i ≡ row_at old.rows i
  pub earlier : (i : ℕ) → region_at chart.cut i ≢ r → slice_index new.earlier i ≡ slice_index old.earlier i

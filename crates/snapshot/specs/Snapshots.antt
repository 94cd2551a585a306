-- A lawful snapshot of the regions of a start.
use Rattle.std.specs.Prelude.{◌≡◌, ℕ, ◌<◌, ◌≤◌, List, length, slice_index}
use Rattle.flow_model.specs.State.{row_at}
use Rattle.network_file.specs.Network.{Network}
use Rattle.region_cut.specs.Cuttings.{region_at, region_count}
use Rattle.region_cut.specs.LawfulSteps.{AreLawful}
use Rattle.region_step.specs.Grid.{grid_before, grid_row}
use Rattle.region_step.specs.Start.{StartLists}
use Rattle.snapshot.specs.Rooms.{RoomValue}

-- the steps that a room shows are lawful and none is before the start's, and the row of each cell is the one to which its
-- region comes at its step, beside what the cell held a step before
pub record IsSnapshot (net : Network) (cut : List ℕ) (start : StartLists) (room : RoomValue) : Type 0 where
  pub lawful : AreLawful net cut room.steps
  pub started : (r : ℕ) → r < region_count cut → slice_index start.steps r ≤ slice_index room.steps r
  pub rows : (i : ℕ) → i < length net.cells → row_at room.rows i ≡ grid_row net cut start (slice_index room.steps (region_at cut i)) i
  pub earlier : (i : ℕ) → i < length net.cells → slice_index room.earlier i ≡ grid_before net cut start (slice_index room.steps (region_at cut i)) i

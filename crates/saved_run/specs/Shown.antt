-- What is saved of a snapshot.
use Rattle.std.specs.Prelude.{ℕ, List, length, map, slice_index}
use Rattle.std.specs.List.{range_with_len}
use Rattle.flow_model.specs.State.{row_at}
use Rattle.region_cut.specs.Cuttings.{region_at}
use Rattle.snapshot.specs.Rooms.{RoomValue}
use Rattle.saved_run.specs.Content.{Content}
use Rattle.saved_run.specs.declared.row_line.RowLine.{RowLine}

-- of cell i its region, its row there and what it held a step before
abbrev pub line_shown : (cut : List ℕ) → RoomValue → (i : ℕ) → RowLine
line_shown cut room i = record { region = region_at cut i; row = row_at room.rows i; earlier = slice_index room.earlier i }

-- the steps of the regions, each cell in the order of the file, and the bytes of the network
abbrev pub content_shown : (cut : List ℕ) → RoomValue → (network : List ℕ) → Content
content_shown cut room network = record {
  steps = room.steps;
  rows = map (line_shown cut room) (range_with_len 0 (length cut));
  network = network;
}

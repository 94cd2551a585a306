-- What is noted of all cells at a recorded step.
use Rattle.std.specs.Prelude.{ℕ, List, length, map, slice_index}
use Rattle.std.specs.List.{range_with_len}
use Rattle.network_file.specs.Network.{Network}
use Rattle.region_step.specs.Recording.{recorded}
use Rattle.region_step.specs.Start.{StartLists}
use Rattle.region_step.specs.declared.note.Note.{Note}
use Rattle.delay_report.specs.FromStart.{grid_note}

-- the k-th of the recorded steps, from 0 on
abbrev pub recorded_step : (steps every k : ℕ) → ℕ
recorded_step steps every k = slice_index (recorded steps every 0 steps) k

-- what is noted of all cells at step t, as the regions of a start come to it
unfoldable pub all_notes : Network → (cut : List ℕ) → StartLists → (t : ℕ) → List Note
all_notes net cut start t = map (grid_note net cut start t) (range_with_len 0 (length net.cells))

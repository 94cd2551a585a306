-- The rows that the regions of a start come to, step by step, each region by itself.
use Rattle.std.specs.Prelude.{ℕ, zero, suc, List, nat_le, slice_index, if◌then◌else◌}
use Rattle.network_file.specs.Network.{Network}
use Rattle.flow_model.specs.Rows.{next_row}
use Rattle.flow_model.specs.State.{row_at}
use Rattle.flow_model.specs.declared.row.Row.{Row}
use Rattle.region_step.specs.Start.{StartLists}
use Rattle.region_step.specs.Starting.{start_of}

-- what a cell holds at step t: by its row where its region has started by then, and else, one step before its start,
-- what it held earlier
abbrev pub held_by : StartLists → (cut : List ℕ) → (t : ℕ) → (rows : ℕ → Row) → (i : ℕ) → ℕ
held_by start cut t rows i = if nat_le (start_of start cut i) t then (rows i).n else slice_index start.earlier i

-- the row of cell i at step t, as its region comes to it. Up to the region's start it is the start's row; from then on
-- each step changes it by what the cells around it hold as that step begins.
unfoldable pub grid_row : Network → (cut : List ℕ) → StartLists → (t i : ℕ) → Row
grid_row net cut start zero i = row_at start.rows i
grid_row net cut start (suc t) i =
    if nat_le (start_of start cut i) t
    then next_row net t (held_by start cut t (grid_row net cut start t)) i (grid_row net cut start t i)
    else row_at start.rows i

-- what cell i holds at step t, for the regions around it
unfoldable pub grid_held : Network → (cut : List ℕ) → StartLists → (t i : ℕ) → ℕ
grid_held net cut start t i = held_by start cut t (grid_row net cut start t) i

-- what cell i held a step before step t
unfoldable pub grid_before : Network → (cut : List ℕ) → StartLists → (t i : ℕ) → ℕ
grid_before net cut start zero i = slice_index start.earlier i
grid_before net cut start (suc t) i = grid_held net cut start t i

-- The rows of all cells at each step: the recurrences.
use Rattle.std.specs.Prelude.{ℕ, zero, suc, List, map, length, slice_index_or, sum_by}
use Rattle.std.specs.List.{range_with_len}
use Rattle.network_file.specs.Network.{Network}
use Rattle.flow_model.specs.Rows.{empty_row, next_row}
use Rattle.flow_model.specs.declared.row.Row.{Row}

-- the row of cell i
abbrev pub row_at : List Row → (i : ℕ) → Row
row_at rows i = slice_index_or rows i empty_row

-- what cell i holds
abbrev pub occupancy : List Row → (i : ℕ) → ℕ
occupancy rows i = (row_at rows i).n

-- all rows after step t
unfoldable pub next_rows : Network → (t : ℕ) → List Row → List Row
next_rows net t rows = map (λ i. next_row net t (occupancy rows) i (row_at rows i)) (range_with_len 0 (length net.cells))

-- State(t): all rows at step t; at first each cell holds what the file says, and nothing is counted yet
unfoldable pub state_at : Network → (t : ℕ) → List Row
state_at net zero = map (λ cell. record empty_row { n = cell.first }) net.cells
state_at net (suc t) = next_rows net t (state_at net t)

-- the delay of a run that ended with these rows: the waits of all cells, parts times steps
unfoldable pub delay_of : List Row → ℕ
delay_of rows = sum_by (λ row. row.wait) rows

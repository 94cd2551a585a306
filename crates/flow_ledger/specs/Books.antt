-- The books of a network: its sums, by the rows of its cells.
use Rattle.std.specs.Prelude.{ℕ, Bool, not, List, length, sum_by}
use Rattle.std.specs.List.{filter, range_with_len}
use Rattle.network_file.specs.Cells.{is_exit_at, is_gate_at}
use Rattle.network_file.specs.Network.{Network}
use Rattle.flow_model.specs.State.{occupancy, row_at}
use Rattle.flow_model.specs.declared.row.Row.{Row}

-- all that has come into cell i
abbrev pub come_of : List Row → (i : ℕ) → ℕ
come_of rows i = (row_at rows i).come

-- the sum of what a function gives for those of the first `cells` cells that pass a test
abbrev pub sum_where : (ℕ → Bool) → (ℕ → ℕ) → (cells : ℕ) → ℕ
sum_where passes f cells = sum_by f (filter passes (range_with_len 0 cells))

-- what the roads and gates hold
unfoldable pub inside_of : Network → List Row → ℕ
inside_of net rows = sum_where (λ i. not (is_exit_at net.cells i)) (occupancy rows) (length net.cells)

-- all that has come into the gates
unfoldable pub entered_of : Network → List Row → ℕ
entered_of net rows = sum_where (is_gate_at net.cells) (come_of rows) (length net.cells)

-- what the exits hold
unfoldable pub left_of : Network → List Row → ℕ
left_of net rows = sum_where (is_exit_at net.cells) (occupancy rows) (length net.cells)

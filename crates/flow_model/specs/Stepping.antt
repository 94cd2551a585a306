-- The rows of some cells after a step.
use Rattle.std.specs.Prelude.{ℕ, List, map, length, slice_index}
use Rattle.std.specs.List.{range_with_len}
use Rattle.network_file.specs.Network.{Network}
use Rattle.flow_model.specs.Rows.{next_row}
use Rattle.flow_model.specs.declared.row.Row.{Row}
use Rattle.flow_model.specs.State.{row_at}

-- the rows of these cells after step t, by their rows and by what all cells around them hold as it begins
unfoldable pub rows_after : Network → (t : ℕ) → (n : ℕ → ℕ) → (cells : List ℕ) → List Row → List Row
rows_after net t n cells rows =
    map (λ p. next_row net t n (slice_index cells p) (row_at rows p)) (range_with_len 0 (length cells))

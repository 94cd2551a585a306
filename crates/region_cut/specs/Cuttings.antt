-- Cuttings of a network's cells into regions.
use Rattle.std.specs.Prelude.{ℕ, ◌+◌, ◌*◌, ◌/◌, List, map, slice_index}
use Rattle.std.specs.List.{range_with_len}
use Rattle.network_file.specs.Cutting.{greatest}

-- the region of cell i
abbrev pub region_at : (cut : List ℕ) → (i : ℕ) → ℕ
region_at cut i = slice_index cut i

-- the number of regions
abbrev pub region_count : (cut : List ℕ) → ℕ
region_count cut = greatest cut + 1

-- the even cutting of so many cells into k regions: cell i is in region floor(i·k/cells)
unfoldable pub even_cutting : (cells k : ℕ) → List ℕ
even_cutting cells k = map (λ i. i * k / cells) (range_with_len 0 cells)

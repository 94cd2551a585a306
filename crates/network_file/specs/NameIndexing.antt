-- When an index finds the cells of a list by their names. The cells whose names fall into one bucket are chained.
use Rattle.std.specs.Prelude.{◌≡◌, ◌≢◌, ℕ, ◌+◌, ◌-◌, ◌<◌, ◌≤◌, List, Some, length, bit_and, bit_xor, get_or, slice_index, take}
use Rattle.std.specs.Hash.FoldHasher as folding
use Rattle.network_file.specs.Cells.{cell_named, name_at}
use Rattle.network_file.specs.declared.buckets.Buckets.{Buckets}
use Rattle.network_file.specs.declared.cell.Cell.{Cell}
use Rattle.network_file.specs.declared.name_index.NameIndex.{NameIndex}
use Rattle.step_plan.specs.Sound.{most_demands}

-- the bucket of a name: names that differ in the last byte alone lie side by side
unfoldable pub bucket_of : Buckets → List ℕ → ℕ
bucket_of buckets name =
    let before_last = length name - 1 in
    let digest = folding.finish (folding.write buckets.seed (take before_last name)) in
    bit_and (bit_xor digest (get_or name before_last 0)) buckets.last

-- end is one more than the number of the last of the first n cells that is in the bucket, or 0 where none is
pub record IsChainEnd (bucket_at : ℕ → ℕ) (n bucket end : ℕ) : Type 0 where
  pub within : end ≤ n
  pub own : 0 < end → bucket_at (end - 1) ≡ bucket
  pub last : (i : ℕ) → end ≤ i → i < n → bucket_at i ≢ bucket

-- the index is of these cells, of which no two have one name
pub record IsIndexOf (index : NameIndex) (cells : List Cell) : Type 0 where
  pub few : length cells ≤ most_demands
  pub apart : (i : ℕ) → i < length cells → cell_named cells (name_at cells i) ≡ Some i
  pub one_each : length index.earlier.items ≡ length cells
  pub buckets : length index.ends.items ≡ index.buckets.last + 1
  pub ends : (bucket : ℕ) → bucket ≤ index.buckets.last
      → IsChainEnd (λ i. bucket_of index.buckets (name_at cells i)) (length cells) bucket (slice_index index.ends.items bucket)
  pub earlier : (i : ℕ) → i < length cells
      → IsChainEnd (λ j. bucket_of index.buckets (name_at cells j)) i (bucket_of index.buckets (name_at cells i)) (slice_index index.earlier.items i)

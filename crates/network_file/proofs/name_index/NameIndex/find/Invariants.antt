use Rattle.std.proofs.Common.{ℕ, ◌≡◌, ◌<◌, ◌≤◌, ◌-◌, false, length}
use Rattle.std.specs.Prelude.{bytes_eq}
use Rattle.network_file.specs.Cells.{name_at}
use Rattle.network_file.specs.NameIndexing.{bucket_of}
use Rattle.network_file.proofs.name_index.NameIndex.find.Given as goal

-- none of the cells from the end on has the name, and the last one before it is in the name's bucket
abbrev pub invariant-loop-end : goal.invariant-loop-end
invariant-loop-end l = record {
  within : l.end ≤ length l.cells;
  own : 0 < l.end → bucket_of l.self.buckets (name_at l.cells (l.end - 1)) ≡ bucket_of l.self.buckets l.name;
  passed : (i : ℕ) → l.end ≤ i → i < length l.cells → bytes_eq (name_at l.cells i) l.name ≡ false;
}

abbrev pub decreases-loop-end : goal.decreases-loop-end
decreases-loop-end l = l.end

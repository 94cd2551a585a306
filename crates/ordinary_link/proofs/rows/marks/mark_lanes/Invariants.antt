use Rattle.std.proofs.Common.{◌≡◌, ℕ, ◌+◌, ◌<◌, false, length, slice_index, slice_index_or, if◌then◌else◌}
use Rattle.ordinary_link.proofs.rows.marks.mark_lanes.Given as goal

abbrev pub invariant-loop-k : goal.invariant-loop-k
invariant-loop-k l = record {
  long : length l.lanes ≡ 8;
  lanes : (i : ℕ) → i < l.k → slice_index l.lanes i ≡ (if slice_index_or l.marks (l.at + i) false then 1 else 0);
}

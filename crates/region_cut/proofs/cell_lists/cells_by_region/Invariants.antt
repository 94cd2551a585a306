use Rattle.std.proofs.Common.{◌≡◌, ℕ, ◌<◌, length}
use Rattle.std.specs.List.{range_with_len}
use Rattle.region_cut.specs.Chart.{list_at}
use Rattle.region_cut.specs.Gathered.{inside}
use Rattle.region_cut.proofs.cell_lists.cells_by_region.Given as goal

abbrev pub invariant-loop-i : goal.invariant-loop-i
invariant-loop-i l = record {
  count : length l.lists ≡ l.regions;
  lists : (r : ℕ) → r < l.regions → list_at l.lists r ≡ inside l.cut r (range_with_len 0 l.i);
}

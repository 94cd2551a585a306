use Rattle.std.proofs.Common.{◌≡◌, map}
use Rattle.std.specs.List.{range_with_len}
use Rattle.region_cut.specs.Chart.{list_at}
use Rattle.region_cut.specs.Gathered.{outside, placed}
use Rattle.region_cut.proofs.halo_lists.halo_by_region.Given as goal

abbrev pub invariant-loop-r : goal.invariant-loop-r
invariant-loop-r l = l.lists ≡ map (λ r. map (placed l.cut l.border) (outside l.cut r (list_at l.met r))) (range_with_len 0 l.r)

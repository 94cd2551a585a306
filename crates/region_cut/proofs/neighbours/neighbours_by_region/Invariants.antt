use Rattle.std.proofs.Common.{◌≡◌, map, length}
use Rattle.std.specs.List.{range_with_len}
use Rattle.region_cut.specs.Chart.{list_at}
use Rattle.region_cut.specs.Gathered.{halo_regions}
use Rattle.region_cut.proofs.neighbours.neighbours_by_region.Given as goal

abbrev pub invariant-loop-r : goal.invariant-loop-r
invariant-loop-r l = l.lists ≡ map (λ r. halo_regions (length l.halo) (list_at l.halo r)) (range_with_len 0 l.r)

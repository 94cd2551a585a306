use Rattle.std.proofs.Common.{◌≡◌, map}
use Rattle.std.specs.List.{range_with_len}
use Rattle.region_cut.specs.Gathered.{met_by}
use Rattle.region_cut.proofs.met.met_by_region.Given as goal

abbrev pub invariant-loop-r : goal.invariant-loop-r
invariant-loop-r l = l.lists ≡ map (met_by l.net l.cut) (range_with_len 0 l.r)

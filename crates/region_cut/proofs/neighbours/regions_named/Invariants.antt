use Rattle.std.proofs.Common.{◌≡◌, take, map}
use Rattle.region_cut.proofs.neighbours.regions_named.Given as goal

abbrev pub invariant-loop-other : goal.invariant-loop-other
invariant-loop-other l = l.regions.items ≡ map (λ other. other.region) (take l.other-index l.halo)

use Rattle.std.proofs.Common.{◌≡◌, take, map}
use Rattle.region_cut.specs.Gathered.{outside, placed}
use Rattle.region_cut.proofs.halo_lists.halo.Given as goal

abbrev pub invariant-loop-cell : goal.invariant-loop-cell
invariant-loop-cell l = l.halo.items ≡ map (placed l.cut l.border) (outside l.cut l.r (take l.cell-index l.met))

use Rattle.std.proofs.Common.{◌≡◌, take}
use Rattle.region_cut.specs.Gathered.{inside}
use Rattle.region_cut.proofs.border.border.Given as goal

abbrev pub invariant-loop-cell : goal.invariant-loop-cell
invariant-loop-cell l = l.cells.items ≡ inside l.cut l.r (take l.cell-index l.met)

use Rattle.std.specs.Prelude.{map, slice_index}
use Rattle.std.proofs.Common.{◌≡◌, take}
use Rattle.region_body.proofs.opening.earlier_of.Given as goal

abbrev pub invariant-loop-i : goal.invariant-loop-i
invariant-loop-i l = l.before.items ≡ map (slice_index l.earlier) (take l.i-index l.cells)

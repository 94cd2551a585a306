use Rattle.std.specs.Prelude.{map, slice_index}
use Rattle.std.proofs.Common.{◌≡◌, take}
use Rattle.plain_region.specs.Opening.{earlier_row}
use Rattle.plain_region.proofs.opening.earlier_rows.Given as goal

abbrev pub invariant-loop-i : goal.invariant-loop-i
invariant-loop-i l = l.own.items ≡ map (λ i. earlier_row (slice_index l.earlier i)) (take l.i-index l.cells)

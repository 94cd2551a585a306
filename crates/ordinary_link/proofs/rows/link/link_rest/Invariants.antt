use Rattle.std.proofs.Common.{min, slice_index}
use Rattle.ordinary_link.specs.Row.{Sets}
use Rattle.ordinary_link.proofs.rows.link.link_rest.Given as goal

abbrev pub invariant-loop-i : goal.invariant-loop-i
invariant-loop-i l = Sets l.at l.i (λ i. min (slice_index l.s i) (slice_index l.r i)) l.initial.y l.y

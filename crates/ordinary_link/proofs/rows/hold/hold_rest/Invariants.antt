use Rattle.std.proofs.Common.{◌+◌, ◌-◌, slice_index}
use Rattle.ordinary_link.specs.Row.{Sets}
use Rattle.ordinary_link.proofs.rows.hold.hold_rest.Given as goal

abbrev pub invariant-loop-i : goal.invariant-loop-i
invariant-loop-i l =
    Sets l.at l.i (λ i. slice_index l.initial.n i + slice_index l.enter i - slice_index l.out i) l.initial.n l.n

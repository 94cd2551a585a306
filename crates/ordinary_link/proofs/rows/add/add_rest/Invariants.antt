use Rattle.std.proofs.Common.{◌+◌, slice_index}
use Rattle.ordinary_link.specs.Row.{Sets}
use Rattle.ordinary_link.proofs.rows.add.add_rest.Given as goal

abbrev pub invariant-loop-i : goal.invariant-loop-i
invariant-loop-i l = Sets l.at l.i (λ i. slice_index l.initial.total i + slice_index l.more i) l.initial.total l.total

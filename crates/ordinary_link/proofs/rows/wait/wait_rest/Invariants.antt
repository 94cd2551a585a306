use Rattle.std.proofs.Common.{false, slice_index, slice_index_or}
use Rattle.ordinary_link.specs.Row.{Sets}
use Rattle.ordinary_link.specs.Waiting.{wait_after}
use Rattle.ordinary_link.proofs.rows.wait.wait_rest.Given as goal

abbrev pub invariant-loop-i : goal.invariant-loop-i
invariant-loop-i l =
    Sets l.at l.i
    (λ i. wait_after (slice_index l.initial.wait i) (slice_index l.n i) (slice_index l.out i) (slice_index_or l.waits i false))
    l.initial.wait l.wait

use Rattle.std.proofs.Common.{false, slice_index, slice_index_or}
use Rattle.ordinary_link.specs.Flows.{sending_flow}
use Rattle.ordinary_link.specs.Row.{Sets}
use Rattle.ordinary_link.proofs.rows.send.send_rest.Given as goal

abbrev pub invariant-loop-i : goal.invariant-loop-i
invariant-loop-i l = Sets l.at l.i (λ i. sending_flow (slice_index l.n i) (slice_index l.q i) (slice_index_or l.green i false)) l.initial.s l.s

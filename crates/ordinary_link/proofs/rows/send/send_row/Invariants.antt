use Rattle.std.proofs.Common.{◌-◌, ◌≤◌, false, length, slice_index, slice_index_or}
use Rattle.ordinary_link.specs.Flows.{sending_flow}
use Rattle.ordinary_link.specs.Row.{Sets}
use Rattle.ordinary_link.proofs.rows.send.send_row.Given as goal

abbrev pub invariant-loop-s : goal.invariant-loop-s
invariant-loop-s l = record {
  within : l.at ≤ length l.s;
  set : Sets 0 l.at (λ i. sending_flow (slice_index l.n i) (slice_index l.q i) (slice_index_or l.green i false)) l.initial.s l.s;
}

abbrev pub decreases-loop-s : goal.decreases-loop-s
decreases-loop-s l = length l.s - l.at

use Rattle.std.proofs.Common.{◌-◌, ◌≤◌, length, min, slice_index}
use Rattle.ordinary_link.specs.Row.{Sets}
use Rattle.ordinary_link.proofs.rows.link.link_row.Given as goal

abbrev pub invariant-loop-y : goal.invariant-loop-y
invariant-loop-y l = record {
  within : l.at ≤ length l.y;
  set : Sets 0 l.at (λ i. min (slice_index l.s i) (slice_index l.r i)) l.initial.y l.y;
}

abbrev pub decreases-loop-y : goal.decreases-loop-y
decreases-loop-y l = length l.y - l.at

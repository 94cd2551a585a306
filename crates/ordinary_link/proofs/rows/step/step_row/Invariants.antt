use Rattle.std.proofs.Common.{◌+◌, ◌-◌, ◌≤◌, false, length, slice_index, slice_index_or}
use Rattle.ordinary_link.specs.Row.{Sets}
use Rattle.ordinary_link.specs.Waiting.{wait_after}
use Rattle.ordinary_link.proofs.rows.step.step_row.Given as goal

abbrev pub invariant-loop-n : goal.invariant-loop-n
invariant-loop-n l = record {
  within : l.at ≤ length l.n;
  holds : Sets 0 l.at (λ i. slice_index l.initial.n i + slice_index l.enter i - slice_index l.out i) l.initial.n l.n;
  comes : Sets 0 l.at (λ i. slice_index l.initial.come i + slice_index l.enter i) l.initial.come l.come;
  goes : Sets 0 l.at (λ i. slice_index l.initial.gone i + slice_index l.out i) l.initial.gone l.gone;
  waiting : Sets 0 l.at
      (λ i. wait_after (slice_index l.initial.wait i) (slice_index l.initial.n i) (slice_index l.out i) (slice_index_or l.waits i false))
      l.initial.wait l.wait;
}

abbrev pub decreases-loop-n : goal.decreases-loop-n
decreases-loop-n l = length l.n - l.at

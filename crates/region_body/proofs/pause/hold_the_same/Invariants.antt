use Rattle.std.specs.Prelude.{None, slice_index_or}
use Rattle.std.proofs.Common.{◌≡◌, ℕ, ◌<◌}
use Rattle.region_body.proofs.pause.hold_the_same.Given as goal

abbrev pub invariant-loop-j : goal.invariant-loop-j
invariant-loop-j l = (k : ℕ) → k < l.j → slice_index_or l.seen k None ≡ slice_index_or l.put k None

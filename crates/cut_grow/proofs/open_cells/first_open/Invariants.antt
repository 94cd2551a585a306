use Rattle.std.specs.Prelude.{slice_index}
use Rattle.std.proofs.Common.{ℕ, ◌<◌, ◌≤◌}
use Rattle.cut_grow.specs.Sides.{IsClosed}
use Rattle.cut_grow.proofs.open_cells.first_open.Given as goal

abbrev pub invariant-loop-place : goal.invariant-loop-place
invariant-loop-place l = (k : ℕ) → l.from ≤ k → k < l.place → IsClosed l.connectors l.placed (slice_index l.order k)

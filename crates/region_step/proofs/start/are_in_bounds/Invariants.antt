use Rattle.std.proofs.Common.{ℕ, ◌<◌}
use Rattle.region_step.specs.Starting.{IsCellInBounds}
use Rattle.region_step.proofs.start.are_in_bounds.Given as goal

abbrev pub invariant-loop-i : goal.invariant-loop-i
invariant-loop-i l = (j : ℕ) → j < l.i → IsCellInBounds l.layout.net l.layout.chart.cut l.start j

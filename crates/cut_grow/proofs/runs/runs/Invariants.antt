use Rattle.std.proofs.Common.{◌≡◌, take}
use Rattle.cut_grow.specs.Grown.{runs_from}
use Rattle.cut_grow.proofs.runs.runs.Given as goal

abbrev pub invariant-loop-r : goal.invariant-loop-r
invariant-loop-r l = l.runs.items ≡ runs_from 0 (take l.r l.sizes)

use Rattle.std.specs.Prelude.{slice_index}
use Rattle.std.proofs.Common.{◌≡◌, map, take}
use Rattle.cut_grow.specs.Grown.{runs_from}
use Rattle.cut_grow.proofs.runs.regions.Given as goal

abbrev pub invariant-loop-place : goal.invariant-loop-place
invariant-loop-place l = l.regions.items ≡ map (slice_index (runs_from 0 l.sizes)) (take l.place-index l.places)

use Rattle.std.specs.Prelude.{slice_index, slice_index_or}
use Rattle.std.proofs.Common.{◌≡◌, ℕ, ◌<◌, length}
use Rattle.region_step.specs.Region.{RegionValue}
use Rattle.region_step.specs.Setup.{setup_of}
use Rattle.region_step.specs.Standing.{Stands}
use Rattle.region_step.proofs.first_regions.open_all.Given as goal

abbrev pub invariant-loop-r : goal.invariant-loop-r
invariant-loop-r l = (length l.regions.items ≡ l.r) ×
    ((q : ℕ) (region : RegionValue) → q < l.r → Stands (setup_of l.layout l.start l.every) q (slice_index l.start.steps q) (slice_index_or l.regions.items q region))

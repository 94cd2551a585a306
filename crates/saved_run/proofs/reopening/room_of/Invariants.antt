use Rattle.std.specs.Prelude.{slice_index_or}
use Rattle.std.proofs.Common.{ℕ, ◌<◌}
use Rattle.region_step.specs.Region.{RegionValue}
use Rattle.snapshot.specs.Rooms.{IsRoomFor, ShowsRegion}
use Rattle.saved_run.proofs.reopening.room_of.Given as goal

-- the first regions are shown
abbrev pub invariant-loop-r : goal.invariant-loop-r
invariant-loop-r l = IsRoomFor l.regions.setup.chart l.room ×
    ((q : ℕ) (region : RegionValue) → q < l.r → ShowsRegion l.regions.setup.chart l.room (slice_index_or l.regions.list q region))

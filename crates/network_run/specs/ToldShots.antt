-- What the observer of a watch was told of its snapshots.
use Rattle.std.specs.Prelude.{ℕ, ◌<◌, ◌≤◌, List, slice_index}
use Rattle.region_cut.specs.Chart.{list_at}
use Rattle.region_cut.specs.Cuttings.{region_count}
use Rattle.snapshot.specs.Shots.{goal_of}
use Rattle.shot_lines.specs.Shots.{AreShots}
use Rattle.region_slots.specs.CutRun.{CutRun}
use Rattle.region_slots.specs.declared.shot.Shot.{Shot}
use Rattle.region_slots.specs.declared.shot.Shot.TheVariants.{Taken}

-- what an observer may be told of a watcher who has seen the regions at these steps and is about to take its snapshot
abbrev pub TellingOfWatchers : Type 1
TellingOfWatchers = CutRun → (seen : List ℕ) → Type 0

-- what an observer may be told of a watcher after that: at which steps it has seen the regions, and what came of its snapshot
abbrev pub TellingOfShots : Type 1
TellingOfShots = CutRun → (seen : List ℕ) → Shot → Type 0

-- of a snapshot that shows the regions at these steps: that it is about to be taken, by a watcher who had seen all regions at
-- a goal or past it, and none past the steps that it shows; and that it was taken, at these steps
pub record HasToldShot (watching : TellingOfWatchers) (watched : TellingOfShots) (run : CutRun) (from : ℕ) (steps : List ℕ) : Type 0 where
  pub before : List ℕ
  pub told_before : watching run before
  pub told_after : watched run steps Taken
  pub between : (r : ℕ) → r < region_count run.cut → (from ≤ slice_index before r) × (slice_index before r ≤ slice_index steps r)

-- of each of so many snapshots, which show the regions at these steps and divide the run's steps evenly
abbrev pub HasToldShots : TellingOfWatchers → TellingOfShots → CutRun → (shots : ℕ) → (steps : List (List ℕ)) → Type 0
HasToldShots watching watched run shots steps = (k : ℕ) → k < shots → HasToldShot watching watched run (goal_of run.net.steps shots k) (list_at steps k)

-- the text of so many shots, and what was told of them: one list of the regions' steps for each stands behind both
abbrev pub AreToldShots : TellingOfWatchers → TellingOfShots → CutRun → (shots : ℕ) → (text : List ℕ) → Type 0
AreToldShots watching watched run shots text = (are : AreShots run.net run.cut shots text) × HasToldShots watching watched run shots are.steps

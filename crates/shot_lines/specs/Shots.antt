-- The texts of the shots of a run that is watched.
use Rattle.std.specs.Prelude.{◌≡◌, ℕ, ◌+◌, ◌<◌, List, flat_map, length}
use Rattle.std.specs.List.{range_with_len}
use Rattle.network_file.specs.Network.{Network}
use Rattle.region_cut.specs.Chart.{list_at}
use Rattle.snapshot.specs.Shots.{AreStepsBetween, goal_of, rows_at}
use Rattle.shot_lines.specs.ShotText.{shot_lines}

-- the text of so many shots, whose rows are those of the plain recurrences, each at its own region's step
pub record AreShots (net : Network) (cut : List ℕ) (shots : ℕ) (text : List ℕ) : Type 0 where
  -- the steps of the regions in each of them
  pub steps : List (List ℕ)
  pub one_each : length steps ≡ shots
  pub each : (i : ℕ) → i < shots → AreStepsBetween net cut (goal_of net.steps shots i) (goal_of net.steps shots (i + 1)) (list_at steps i)
  pub lines : text ≡ flat_map (λ i. shot_lines net cut (i + 1) (list_at steps i) (rows_at net cut (list_at steps i))) (range_with_len 0 shots)

-- All regions of a setup, as contracts see them.
use Rattle.std.specs.Prelude.{◌≡◌, ℕ, ◌<◌, ◌≤◌, List, length, replicate, slice_index}
use Rattle.region_cut.specs.Cuttings.{region_count}
use Rattle.region_step.specs.Region.{RegionValue}
use Rattle.region_step.specs.Setup.{SetupValue}
use Rattle.region_step.specs.Standing.{AllStand}

pub record RegionsValue : Type 0 where
  pub setup : SetupValue
  -- the step of each
  pub steps : List ℕ
  -- the regions, in order of number
  pub list : List RegionValue

-- regions of a setup that have come to these steps from where they start
pub record HaveCome (setup : SetupValue) (steps : List ℕ) (list : List RegionValue) : Type 0 where
  pub one_each : length steps ≡ region_count setup.chart.cut
  pub later : (q : ℕ) → q < region_count setup.chart.cut → slice_index setup.start.steps q ≤ slice_index steps q
  pub stand : AllStand setup steps list

-- all are at step t
abbrev pub AreAt : RegionsValue → (t : ℕ) → Type 0
AreAt regions t = regions.steps ≡ replicate (region_count regions.setup.chart.cut) t

-- all are at the last step
abbrev pub AreAtLast : RegionsValue → Type 0
AreAtLast regions = AreAt regions regions.setup.net.steps

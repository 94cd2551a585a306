-- Regions of a setup that stand at steps of their own.
use Rattle.std.specs.Prelude.{◌≡◌, ℕ, ◌<◌, List, length, slice_index, slice_index_or}
use Rattle.region_cut.specs.Cuttings.{region_count}
use Rattle.region_step.specs.Laws.{grid_state}
use Rattle.region_step.specs.Opened.{IsIn}
use Rattle.region_step.specs.Region.{RegionValue}
use Rattle.region_step.specs.Setup.{SetupValue}

-- region q stands at step t, as the setup's regions come to it
pub record Stands (setup : SetupValue) (q t : ℕ) (region : RegionValue) : Type 0 where
  pub opened : IsIn setup.net setup.chart region
  pub state : region.state ≡ grid_state setup.net setup.chart setup.start setup.every q t

-- each region stands at its step
pub record AllStand (setup : SetupValue) (steps : List ℕ) (regions : List RegionValue) : Type 0 where
  pub one_each : length regions ≡ region_count setup.chart.cut
  pub each : (q : ℕ) (region : RegionValue) → q < length regions → Stands setup q (slice_index steps q) (slice_index_or regions q region)

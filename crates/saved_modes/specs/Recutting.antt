-- The parts of a run that is cut anew on the way.
use Rattle.std.specs.Prelude.{◌≡◌, ⊤, ℕ, ◌+◌, ◌-◌, ◌%◌, List, Option, Some, None, map, min, slice_index}
use Rattle.std.specs.List.{range_with_len}
use Rattle.network_file.specs.Limits.{most_regions}
use Rattle.network_file.specs.Network.{Network}
use Rattle.region_cut.specs.Cuttings.{even_cutting}
use Rattle.region_step.specs.Regions.{AreAt, RegionsValue}
use Rattle.saved_run.specs.EvenStart.{IsTrueBelow}

-- the cutting of part i of a run, from 1 on: the even one in one region more for each part, at most as many as there are
-- cells, and 1 again behind the most that there may be
abbrev pub part_cutting : (cells regions i : ℕ) → List ℕ
part_cutting cells regions i = even_cutting cells (min ((regions + i - 2) % most_regions + 1) cells)

-- those of so many parts
abbrev pub part_cuttings : (cells regions parts : ℕ) → List (List ℕ)
part_cuttings cells regions parts = map (part_cutting cells regions) (range_with_len 1 parts)

-- the step to which the last part came, 0 before the first
abbrev pub step_of : Option RegionsValue → ℕ
step_of None = 0
step_of (Some regions) = slice_index regions.steps 0

-- the regions of a part, all at the step where it ends and recorded nowhere, taken there from an earlier one where the rows
-- were those of the plain recurrences
pub record IsPart (net : Network) (regions : RegionsValue) : Type 0 where
  pub network : regions.setup.net ≡ net
  pub unrecorded : regions.setup.every ≡ 0
  pub even : AreAt regions (step_of (Some regions))
  pub from : IsTrueBelow regions.setup.net regions.setup.chart.cut regions.setup.start (step_of (Some regions))

-- those of the last part so far, where there is one
abbrev pub IsLastPart : Network → Option RegionsValue → Type 0
IsLastPart net None = ⊤
IsLastPart net (Some regions) = IsPart net regions

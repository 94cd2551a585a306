-- What the observer of a run was told.
use Rattle.std.specs.Prelude.{ℕ, ◌+◌, ◌<◌, ◌≤◌, List, slice_index}
use Rattle.network_file.specs.Network.{Network}
use Rattle.region_cut.specs.Cuttings.{region_count}
use Rattle.region_step.specs.Start.{zero_start}
use Rattle.region_slots.specs.CutRun.{CutRun}

-- a statement about a run, one of its regions and a step, which an observer may be told
abbrev pub Telling : Type 1
Telling = CutRun → (region step : ℕ) → Type 0

-- a run from step 0
abbrev pub zero_run : Network → (cut : List ℕ) → (every : ℕ) → CutRun
zero_run net cut every = record { net = net; cut = cut; start = zero_start net cut; every = every }

-- the observer was told of each region r of a run, for each step s from the one at which r starts to the last one below a goal,
-- that r was held at s, and that it was freed at s + 1
abbrev pub HasTold : (held freed : Telling) → CutRun → (goal : ℕ) → Type 0
HasTold held freed run goal = (r s : ℕ) → r < region_count run.cut → slice_index run.start.steps r ≤ s → s < goal → held run r s × freed run r (s + 1)

-- the observer was told of each region of a run from step 0, in some cutting of this kind, for each step below a goal
pub record HasToldIn (held freed : Telling) (IsOne : (cut : List ℕ) → Type 0) (net : Network) (every goal : ℕ) : Type 0 where
  pub cut : List ℕ
  pub is : IsOne cut
  pub told : HasTold held freed (zero_run net cut every) goal

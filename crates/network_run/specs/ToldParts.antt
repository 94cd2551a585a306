-- What the observer was told of a run that begins at a later step, or that is made in parts.
use Rattle.std.specs.Prelude.{◌≡◌, ℕ, ◌+◌, ◌<◌, List, length, replicate}
use Rattle.network_file.specs.Network.{Network}
use Rattle.region_cut.specs.Chart.{list_at}
use Rattle.region_cut.specs.Cuttings.{region_count}
use Rattle.region_step.specs.Start.{StartLists}
use Rattle.region_step.specs.Starting.{IsTrueStart}
use Rattle.snapshot.specs.Shots.{goal_of}
use Rattle.network_run.specs.Telling.{Telling, HasTold}

-- of each region of a network in one of these cuttings, from where it starts for each step to the last
pub record HasToldOn (held freed : Telling) (IsOne : (net : Network) (cut : List ℕ) → Type 0) (start : StartLists) : Type 0 where
  pub net : Network
  pub cut : List ℕ
  pub is : IsOne net cut
  pub told : HasTold held freed (record { net = net; cut = cut; start = start; every = 0 }) net.steps

-- of a part of a run: of each region of the network in its cutting, from a step at which its cells held what the plain
-- recurrences have, for each step to below the part's goal
pub record HasToldPart (held freed : Telling) (net : Network) (cut : List ℕ) (from goal : ℕ) : Type 0 where
  pub start : StartLists
  pub steps : start.steps ≡ replicate (region_count cut) from
  pub true_start : IsTrueStart net cut start
  pub told : HasTold held freed (record { net = net; cut = cut; start = start; every = 0 }) goal

-- of each part, in these cuttings, from the goal of the part before to its own, where it lies behind that
abbrev pub HasToldParts : (held freed : Telling) → Network → (cuts : List (List ℕ)) → Type 0
HasToldParts held freed net cuts =
    (k : ℕ) → k < length cuts → goal_of net.steps (length cuts) k < goal_of net.steps (length cuts) (k + 1) →
    HasToldPart held freed net (list_at cuts k) (goal_of net.steps (length cuts) k) (goal_of net.steps (length cuts) (k + 1))

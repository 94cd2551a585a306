-- A moment of a run from step 0, and what is saved of it.
use Rattle.std.specs.Prelude.{◌≡◌, ℕ, ◌≤◌, All, IsSomeAnd, List, Ok}
use Rattle.network_file.specs.Network.{Network}
use Rattle.network_file.specs.Sound.{IsNetwork}
use Rattle.network_file.specs.Reading.{network_of}
use Rattle.region_cut.specs.Chart.{ChartLists}
use Rattle.snapshot.specs.Rooms.{RoomValue}
use Rattle.saved_run.specs.Futures.{AgreeBelow}
use Rattle.saved_run.specs.Laws.{HasTrueStart}
use Rattle.saved_run.specs.Reading.{content_of}

pub record MomentValue : Type 0 where
  pub net : Network
  -- the chart of one of its cuttings
  pub chart : ChartLists
  -- the step of each region, and of each cell its row there
  pub room : RoomValue

-- a saved text of this network in this cutting, from which a run goes on as from step 0
abbrev pub GoesOnTrue : (text : List ℕ) → Network → (cut : List ℕ) → Type 0
GoesOnTrue text net cut = IsSomeAnd (content_of text) (λ content. HasTrueStart content net cut)

-- another network agrees with that of a moment, which is the network of a file, below a step that no region is past
pub record IsFutureOf (moment : MomentValue) (own : List ℕ) (other : Network) (u : ℕ) : Type 0 where
  pub reads : network_of own ≡ Ok moment.net
  pub sound : IsNetwork other
  pub agree : AgreeBelow moment.net other u
  pub by_then : All (λ s. s ≤ u) moment.room.steps
  pub in_time : All (λ s. s ≤ other.steps) moment.room.steps

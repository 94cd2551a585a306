-- A run that goes on from a saved snapshot.
use Rattle.std.specs.Prelude.{◌≡◌, ℕ, List, Ok, length}
use Rattle.network_file.specs.Cutting.{IsCutting}
use Rattle.network_file.specs.Network.{Network}
use Rattle.network_file.specs.Sound.{IsNetwork}
use Rattle.network_file.specs.Reading.{network_of}
use Rattle.region_cut.specs.LawfulSteps.{AreLawful}
use Rattle.region_step.specs.Start.{StartLists}
use Rattle.region_step.specs.Starting.{Fits, IsTrueStart}
use Rattle.snapshot.specs.Rooms.{RoomValue}
use Rattle.snapshot.specs.Snapshots.{IsSnapshot}
use Rattle.saved_run.specs.Content.{Content}
use Rattle.saved_run.specs.Loading.{CanStart, IsCutSo, start_in}

-- regions at lawful steps of a run from a true start of the network of these bytes
pub record IsTrueShot (bytes : List ℕ) (net : Network) (cut : List ℕ) (start : StartLists) (room : RoomValue) : Type 0 where
  pub network : network_of bytes ≡ Ok net
  pub sound : IsNetwork net
  pub cutting : IsCutting (length net.cells) cut
  pub fits : Fits net cut start
  pub from : AreLawful net cut start.steps
  pub true_start : IsTrueStart net cut start
  pub snapshot : IsSnapshot net cut start room

-- the content is of this network, cut so, and a run goes on from it as from the beginning
pub record HasTrueStart (content : Content) (net : Network) (cut : List ℕ) : Type 0 where
  pub cut_so : IsCutSo content net cut
  pub can_start : CanStart net cut (start_in content)
  pub true_start : IsTrueStart net cut (start_in content)

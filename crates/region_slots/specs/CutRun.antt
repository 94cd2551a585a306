-- A run of a network in a cutting.
use Rattle.std.specs.Prelude.{ℕ, List}
use Rattle.network_file.specs.Network.{Network}
use Rattle.region_step.specs.Start.{StartLists}

-- a run of a network in a cutting: where its regions start, and every how many steps they are recorded
pub record CutRun : Type 0 where
  pub net : Network
  pub cut : List ℕ
  pub start : StartLists
  pub every : ℕ

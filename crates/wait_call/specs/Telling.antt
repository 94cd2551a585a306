-- What the observer of a call was told.
use Rattle.std.specs.Prelude.{◌≡◌, ◌≢◌, ℕ, List, Result, Ok, Err, length, min}
use Rattle.network_file.specs.Network.{Network}
use Rattle.region_cut.specs.Cuttings.{even_cutting}
use Rattle.network_run.specs.Telling.{HasTold, Telling, zero_run}
use Rattle.call_ending.specs.Why.{Why}
use Rattle.wait_call.specs.Answer.{IsTextOf}

-- in how many regions a network is cut whose file gives none, where it has as many cells
abbrev pub even_regions : ℕ
even_regions = 64

-- each step of the network in the file's cutting, or in the even one into so many regions or as many as there are cells
pub record HasToldRun (held freed : Telling) (net : Network) : Type 0 where
  pub cut : List ℕ
  pub own : length net.regions ≢ 0 → cut ≡ net.regions
  pub even : length net.regions ≡ 0 → cut ≡ even_cutting (length net.cells) (min even_regions (length net.cells))
  pub told : HasTold held freed (zero_run net cut 0) net.steps

-- a network that was answered by this text, and what the observer was told of its run
abbrev pub IsReported : (held freed : Telling) → Result Network Why → List ℕ → Type 0
IsReported held freed (Ok net) text = IsTextOf (Ok net) text × HasToldRun held freed net
IsReported held freed (Err why) text = ⊥

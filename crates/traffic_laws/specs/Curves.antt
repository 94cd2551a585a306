-- The curves of a cell: by each step, what has arrived in it and what has departed from it.
use Rattle.std.specs.Prelude.{◌≡◌, ℕ, ◌+◌, ◌<◌, ◌≤◌, List, false, length, slice_index}
use Rattle.network_file.specs.Cells.{is_exit_at}
use Rattle.network_file.specs.Network.{Network}
use Rattle.network_file.specs.Sound.{IsNetwork}
use Rattle.flow_model.specs.Bounds.{first_at}
use Rattle.flow_model.specs.State.{state_at}
use Rattle.flow_ledger.specs.Flight.{gone_of}
use Rattle.flow_ledger.specs.Books.{come_of}

-- what has arrived in cell i by step s, with what it held at first
abbrev pub arrived : Network → (i s : ℕ) → ℕ
arrived net i s = first_at net.cells i + come_of (state_at net s) i

-- what has departed from it by then
abbrev pub departed : Network → (i s : ℕ) → ℕ
departed net i s = gone_of (state_at net s) i

-- these are the curves of cell i, which is no exit, at the steps from 0 on
pub record AreCurvesOf (net : Network) (i first : ℕ) (come gone : List ℕ) : Type 0 where
  pub sound : IsNetwork net
  pub has_cell : i < length net.cells
  pub no_exit : is_exit_at net.cells i ≡ false
  pub in_time : length come ≤ net.steps + 1
  pub same_steps : length gone ≡ length come
  pub arrivals : (s : ℕ) → s < length come → first + slice_index come s ≡ arrived net i s
  pub departures : (s : ℕ) → s < length gone → slice_index gone s ≡ departed net i s

-- what has departed by a step had arrived by the step before
abbrev pub DepartsAfterArriving : (first : ℕ) → (come gone : List ℕ) → Type 0
DepartsAfterArriving first come gone = (s : ℕ) → s + 1 < length gone → slice_index gone (s + 1) ≤ first + slice_index come s

-- The choice among networks by their delays.
use Rattle.std.specs.Prelude.{◌≡◌, ℕ, ◌<◌, ◌≤◌, ◌^◌, List, Result, IfOk, length, slice_index, slice_index_or}
use Rattle.network_file.specs.Network.{Network}
use Rattle.no_memory.specs.declared.memory.NoMemory.{NoMemory}
use Rattle.flow_model.specs.State.{delay_of, state_at}

-- the delay of a network: the waits of all its cells at the last step of the recurrences, parts times steps
abbrev pub whole_delay : Network → ℕ
whole_delay net = delay_of (state_at net net.steps)

-- the first of the least delays: no delay is less, and each before it is greater
pub record IsChoice (delays : List ℕ) (plan : ℕ) : Type 0 where
  pub there : plan < length delays
  pub least : (p : ℕ) → p < length delays → slice_index delays plan ≤ slice_index delays p
  pub first : (p : ℕ) → p < plan → slice_index delays plan < slice_index delays p

-- what came of a network's run: its delay, which isn't large, or memory was refused
pub record IsDelay (net : Network) (delay : ℕ) : Type 0 where
  pub is : delay ≡ whole_delay net
  pub small : delay < 2 ^ 96

abbrev pub IsDelayResult : Network → Result ℕ NoMemory → Type 0
IsDelayResult net result = IfOk result (IsDelay net)

-- of each network in turn
pub record AreDelayResults (nets : List Network) (results : List (Result ℕ NoMemory)) : Type 0 where
  pub one_each : length results ≡ length nets
  pub each : (p : ℕ) (net : Network) (result : Result ℕ NoMemory) → p < length nets → IsDelayResult (slice_index_or nets p net) (slice_index_or results p result)

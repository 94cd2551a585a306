-- The gates among the cells, and what they demand.
use Rattle.std.specs.Prelude.{◌≡◌, ◌==◌, ℕ, ◌<◌, ◌≤◌, List, length, slice_index, slice_index_or, if◌then◌else◌}
use Rattle.network_file.specs.Network.{Network}
use Rattle.step_plan.specs.Demand.{demand_at}
use Rattle.timelines.specs.Timelines.{value_at}
use Rattle.region_body.specs.declared.gate.GatePlace.{GatePlace}

-- what a gate brings to place p in step t
abbrev pub demand_into : (t p : ℕ) → GatePlace → ℕ
demand_into t p gate = if gate.place == p then value_at gate.timeline t else 0

-- the gate once it is asked for step t
abbrev pub asked : (t : ℕ) → GatePlace → GatePlace
asked t gate = record gate { timeline = record gate.timeline { step = t } }

-- so are all
pub record AreAsked (t : ℕ) (old new : List GatePlace) : Type 0 where
  pub long : length new ≡ length old
  pub each : (k : ℕ) (d : GatePlace) → k < length old → slice_index_or new k d ≡ asked t (slice_index_or old k d)

-- its demand is that of its cell, and it was asked for no step past t
pub record IsGateOf (net : Network) (cells : List ℕ) (t : ℕ) (gate : GatePlace) : Type 0 where
  pub demand : (s : ℕ) → value_at gate.timeline s ≡ demand_at net.plan (slice_index cells gate.place) s
  pub step : gate.timeline.step ≤ t

-- a gate whose place and demand are as they were, asked for no step past t
pub record IsGateKept (t : ℕ) (old new : GatePlace) : Type 0 where
  pub place : new.place ≡ old.place
  pub demand : (s : ℕ) → value_at new.timeline s ≡ value_at old.timeline s
  pub step : new.timeline.step ≤ t

-- so are all
pub record AreGatesKept (t : ℕ) (old new : List GatePlace) : Type 0 where
  pub long : length new ≡ length old
  pub each : (k : ℕ) (d : GatePlace) → k < length old → IsGateKept t (slice_index_or old k d) (slice_index_or new k d)

-- What a cell can pass in a range of steps, and when it passes as much.
use Rattle.std.specs.Prelude.{◌≡◌, ℕ, ◌+◌, ◌-◌, ◌*◌, ◌<◌, ◌≤◌, count_by, length, sum_by, true, if◌then◌else◌}
use Rattle.std.specs.List.{range_with_len}
use Rattle.step_plan.specs.Capacity.{capacity_at}
use Rattle.step_plan.specs.Green.{green_at}
use Rattle.step_plan.specs.Speeds.{arriving, speed_at}
use Rattle.step_plan.specs.Records.{PlanRecords}
use Rattle.network_file.specs.Numbered.{connector_at}
use Rattle.network_file.specs.Network.{Network}
use Rattle.network_file.specs.declared.connector.Connector.TheVariants.{Link}
use Rattle.flow_model.specs.Limits.{receiving_at}
use Rattle.flow_model.specs.State.{occupancy, state_at}
use Rattle.traffic_laws.specs.Curves.{departed}

-- the capacity of cell i at step s where it is green, and nothing at red
abbrev pub green_capacity : PlanRecords → (i s : ℕ) → ℕ
green_capacity plan i s = if green_at plan i s then capacity_at plan i s else 0

-- that of the steps of the range together
unfoldable pub green_capacity_over : Network → (i from to : ℕ) → ℕ
green_capacity_over net i from to = sum_by (green_capacity net.plan i) (range_with_len from (to - from))

-- at one green capacity, as of a cell without a signal: that, times the steps of the range
abbrev pub IsRateTimesSteps : Network → (i from to most : ℕ) → Type 0
IsRateTimesSteps net i from to most =
    (q : ℕ) → ((s : ℕ) → from ≤ s → s < to → green_capacity net.plan i s ≡ q) → most ≡ q * (to - from)

-- at one capacity where it is green: that, times the green steps of the range
abbrev pub IsRateTimesGreenSteps : Network → (i from to most : ℕ) → Type 0
IsRateTimesGreenSteps net i from to most =
    (q : ℕ) → ((s : ℕ) → from ≤ s → s < to → green_at net.plan i s ≡ true → capacity_at net.plan i s ≡ q) →
    most ≡ q * count_by (green_at net.plan i) (range_with_len from (to - from))

-- no more goes out of the cell in the range
abbrev pub PassesAtMost : Network → (i from to most : ℕ) → Type 0
PassesAtMost net i from to most = departed net i to ≤ departed net i from + most

-- at step s the cell is at red, or its capacity reaches its end, and the cell downstream of its link can receive that
pub record IsFedAndDrained (net : Network) (i down s : ℕ) : Type 0 where
  pub fed : green_at net.plan i s ≡ true → capacity_at net.plan i s ≤ arriving (speed_at net.plan i s) (occupancy (state_at net s) i)
  pub drained : green_at net.plan i s ≡ true → capacity_at net.plan i s ≤ receiving_at net s down (occupancy (state_at net s) down)

-- where it is so at each step of the range, exactly as much goes out
abbrev pub PassesAllWhereFed : Network → (i from to most : ℕ) → Type 0
PassesAllWhereFed net i from to most =
    (k down : ℕ) → k < length net.connectors → connector_at net.connectors k ≡ Link i down →
    ((s : ℕ) → from ≤ s → s < to → IsFedAndDrained net i down s) → departed net i to ≡ departed net i from + most

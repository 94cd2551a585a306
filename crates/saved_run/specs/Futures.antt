-- Another future: two networks that are one up to some step.
use Rattle.std.specs.Prelude.{◌≡◌, ℕ, ◌+◌, ◌<◌, ◌≤◌, All, List, Some, Ok, length, slice_index}
use Rattle.step_plan.specs.Capacity.{capacity_at}
use Rattle.step_plan.specs.Demand.{demand_at}
use Rattle.step_plan.specs.Green.{green_at}
use Rattle.step_plan.specs.Speeds.{speed_at}
use Rattle.step_plan.specs.Turning.{shares_at}
use Rattle.network_file.specs.Network.{Network}
use Rattle.network_file.specs.Sound.{IsNetwork}
use Rattle.network_file.specs.Reading.{network_of}
use Rattle.flow_model.specs.State.{occupancy, row_at, state_at}
use Rattle.region_cut.specs.LawfulSteps.{AreLawful}
use Rattle.region_step.specs.Start.{StartLists}
use Rattle.region_step.specs.Starting.{start_of}
use Rattle.saved_run.specs.Content.{Content}
use Rattle.saved_run.specs.Loading.{cutting_in, start_in}

-- they have the same cells and connectors, and the same capacities, lights, speeds, demands and shares at all steps below u
pub record AgreeBelow (net other : Network) (u : ℕ) : Type 0 where
  pub cells : other.cells ≡ net.cells
  pub connectors : other.connectors ≡ net.connectors
  pub capacities : (i t : ℕ) → t < u → capacity_at other.plan i t ≡ capacity_at net.plan i t
  pub lights : (i t : ℕ) → t < u → green_at other.plan i t ≡ green_at net.plan i t
  pub speeds : (i t : ℕ) → t < u → speed_at other.plan i t ≡ speed_at net.plan i t
  pub demands : (i t : ℕ) → t < u → demand_at other.plan i t ≡ demand_at net.plan i t
  pub shares : (i t : ℕ) (own : ℕ × ℕ) → t < u → shares_at other.plan i t own ≡ shares_at net.plan i t own

-- regions at lawful steps, where all rows, and all that cells held a step before, are those of the recurrences
pub record IsMoment (net : Network) (cut : List ℕ) (start : StartLists) : Type 0 where
  pub lawful : AreLawful net cut start.steps
  pub row_each : length start.rows ≡ length net.cells
  pub earlier_each : length start.earlier ≡ length net.cells
  pub rows : (i : ℕ) → i < length net.cells → row_at start.rows i ≡ row_at (state_at net (start_of start cut i)) i
  pub earlier : (i t : ℕ) → i < length net.cells → start_of start cut i ≡ t + 1 → slice_index start.earlier i ≡ occupancy (state_at net t) i
  pub none : (i : ℕ) → i < length net.cells → start_of start cut i ≡ 0 → slice_index start.earlier i ≡ 0

-- a saved moment of one network whose own network is edited: the other agrees with it below a step that no region is past
pub record IsEdited (content : Content) (net other : Network) (u : ℕ) (cut edited : List ℕ) : Type 0 where
  pub cutting : cutting_in net content ≡ Some cut
  pub moment : IsMoment net cut (start_in content)
  pub by_then : All (λ s. s ≤ u) content.steps
  pub agree : AgreeBelow net other u
  pub sound : IsNetwork other
  pub reads : network_of edited ≡ Ok other
  pub in_time : All (λ s. s ≤ other.steps) content.steps

-- what is saved with the other network
abbrev pub edited_content : Content → (edited : List ℕ) → Content
edited_content content edited = record content { network = edited }

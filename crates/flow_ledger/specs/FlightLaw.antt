-- The law of a flight: what is under way is what one step carries between cells of which some have taken it and others not.
use Rattle.std.specs.Prelude.{◌≡◌, ◌==◌, ℕ, ◌+◌, ◌⊎◌, List, ℤ, pos, ◌-ℤ◌, neg_ℤ, All, sum_by}
use Rattle.std.specs.List.{filter}
use Rattle.network_file.specs.Connectors.{cells_of, downstream_of, upstream_of}
use Rattle.network_file.specs.Network.{Network}
use Rattle.network_file.specs.declared.connector.Connector.{Connector}
use Rattle.network_file.specs.declared.connector.Connector.TheVariants.{Link}
use Rattle.flow_model.specs.Flows.{flow_of, inflow, outflow}
use Rattle.flow_model.specs.State.{occupancy, state_at}
use Rattle.flow_model.specs.declared.row.Row.{Row}
use Rattle.flow_ledger.specs.UnevenSteps.{StandAt}

-- what leaves cell i in step t, and what enters it, by the recurrences
abbrev pub leaves : Network → (t i : ℕ) → ℕ
leaves net t i = outflow net t (occupancy (state_at net t)) i

abbrev pub enters : Network → (t i : ℕ) → ℕ
enters net t i = inflow net t (occupancy (state_at net t)) i

-- the cells of a list that stand one step past m
abbrev pub ahead : (s : ℕ → ℕ) → (m : ℕ) → List ℕ → List ℕ
ahead s m cells = filter (λ i. s i == m + 1) cells

-- cell i stands at step m or one step past it
abbrev pub IsClose : (s : ℕ → ℕ) → (m i : ℕ) → Type 0
IsClose s m i = (s i ≡ m) ⊎ (s i ≡ m + 1)

-- where each cell of the connector stands at step m or one step past it: what leaves, in step m, the cells upstream that
-- stand past it, less what enters, in step m, the cells downstream that do
abbrev pub FlightLaw : Network → List Row → Connector → (flight : ℤ) → Type 0
FlightLaw net rows connector flight =
    (s : ℕ → ℕ) (m : ℕ) → StandAt net s rows → All (IsClose s m) (cells_of connector) →
    flight ≡ pos (sum_by (leaves net m) (ahead s m (upstream_of connector))) -ℤ pos (sum_by (enters net m) (ahead s m (downstream_of connector)))

-- nothing is under way where all cells of the connector stand at one step
abbrev pub FlightAtOneStep : Network → List Row → Connector → (flight : ℤ) → Type 0
FlightAtOneStep net rows connector flight =
    (s : ℕ → ℕ) (m : ℕ) → StandAt net s rows → All (λ i. s i ≡ m) (cells_of connector) → flight ≡ pos 0

-- of a link whose cells stand one step apart: the flow of that step where the cell upstream has taken it, and minus that
-- flow where the cell downstream has
abbrev pub LinkFlightLaw : Network → List Row → Connector → (flight : ℤ) → Type 0
LinkFlightLaw net rows connector flight =
    (s : ℕ → ℕ) (m up down : ℕ) → StandAt net s rows → connector ≡ Link up down →
    let carried = (flow_of net m (occupancy (state_at net m)) connector).out1 in
    (s up ≡ m + 1 → s down ≡ m → flight ≡ pos carried) × (s up ≡ m → s down ≡ m + 1 → flight ≡ neg_ℤ (pos carried))

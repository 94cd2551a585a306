-- What holds of the rows of regions that stand at steps of their own, from a true start.
use Rattle.std.specs.Prelude.{◌≡◌, ℕ, ◌+◌, ◌<◌, ◌≤◌, All, List, ℤ, pos, neg_ℤ, ◌-ℤ◌, length, slice_index, sum_by}
use Rattle.std.specs.List.{Contains}
use Rattle.network_file.specs.Connectors.{cells_of, downstream_of, upstream_of}
use Rattle.network_file.specs.Network.{Network}
use Rattle.network_file.specs.declared.connector.Connector.{Connector}
use Rattle.network_file.specs.declared.connector.Connector.TheVariants.{Link}
use Rattle.flow_model.specs.Flows.{flow_of}
use Rattle.flow_model.specs.State.{occupancy, row_at, state_at}
use Rattle.flow_model.specs.declared.row.Row.{Row}
use Rattle.flow_ledger.specs.FlightLaw.{ahead, enters, leaves}
use Rattle.flow_ledger.specs.declared.network_books.Books.{Books}
use Rattle.region_cut.specs.Cuttings.{region_at}
use Rattle.region_cut.specs.LawfulSteps.{AreLawful}
use Rattle.region_step.specs.Grid.{grid_row}
use Rattle.region_step.specs.Start.{StartLists}
use Rattle.region_step.specs.Starting.{IsTrueStart}
use Rattle.snapshot.specs.Shots.{IsBalanced}

-- the step of cell i is that of its region
abbrev pub cell_step : (cut steps : List ℕ) → (i : ℕ) → ℕ
cell_step cut steps i = slice_index steps (region_at cut i)

-- regions at these steps, none before its start: lawful steps, from a true start with lawful steps
pub record AreReached (net : Network) (cut : List ℕ) (start : StartLists) (steps : List ℕ) : Type 0 where
  pub true_start : IsTrueStart net cut start
  pub from : AreLawful net cut start.steps
  pub lawful : AreLawful net cut steps
  pub started : (q : ℕ) → slice_index start.steps q ≤ slice_index steps q

-- the row of each cell is the one to which its region comes at its step
pub record AreRowsAt (net : Network) (cut : List ℕ) (start : StartLists) (steps : List ℕ) (rows : List Row) : Type 0 where
  pub reached : AreReached net cut start steps
  pub each : (i : ℕ) → i < length net.cells → row_at rows i ≡ grid_row net cut start (cell_step cut steps i) i

-- whatever the steps, the books balance
abbrev pub Balances : Network → List Row → Books → Type 0
Balances net rows books = (cut : List ℕ) (start : StartLists) (steps : List ℕ) → AreRowsAt net cut start steps rows → IsBalanced books

-- m is the least step at which a cell of the connector stands
pub record IsLeastStep (cut steps : List ℕ) (connector : Connector) (m : ℕ) : Type 0 where
  pub least : All (λ i. m ≤ cell_step cut steps i) (cells_of connector)
  pub one : (i : ℕ) × Contains (cells_of connector) i × (cell_step cut steps i ≡ m)

-- a flight is what leaves, in the least step m of the connector's cells, its cells upstream that have taken that step,
-- less what enters, in that step, its cells downstream that have
abbrev pub IsStepFlow : Network → List Row → Connector → (flight : ℤ) → Type 0
IsStepFlow net rows connector flight =
    (cut : List ℕ) (start : StartLists) (steps : List ℕ) (m : ℕ) → AreRowsAt net cut start steps rows → IsLeastStep cut steps connector m →
    flight ≡ pos (sum_by (leaves net m) (ahead (cell_step cut steps) m (upstream_of connector)))
    -ℤ pos (sum_by (enters net m) (ahead (cell_step cut steps) m (downstream_of connector)))

-- the flight of a link is 0 where its cells stand at one step, the flow of one step where the cell upstream has taken it,
-- and minus that flow where the cell downstream has
abbrev pub IsLinkFlow : Network → List Row → Connector → (flight : ℤ) → Type 0
IsLinkFlow net rows connector flight =
    (cut : List ℕ) (start : StartLists) (steps : List ℕ) (up down : ℕ) → AreRowsAt net cut start steps rows → connector ≡ Link up down →
    let step : ℕ → ℕ = cell_step cut steps in
    let carried : ℕ → ℕ = λ t. (flow_of net t (occupancy (state_at net t)) connector).out1 in
    (step up ≡ step down → flight ≡ pos 0)
    × (step up ≡ step down + 1 → flight ≡ pos (carried (step down)))
    × (step down ≡ step up + 1 → flight ≡ neg_ℤ (pos (carried (step up))))

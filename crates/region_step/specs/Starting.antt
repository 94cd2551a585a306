-- The starts from which the regions of a network can be opened, and those that are true.
use Rattle.std.specs.Prelude.{◌≡◌, ℕ, ◌+◌, ◌<◌, ◌≤◌, All, List, length, slice_index, true}
use Rattle.network_file.specs.Network.{Network}
use Rattle.flow_model.specs.Bounds.{IsHeldInBounds, IsRowInBounds}
use Rattle.flow_model.specs.State.{occupancy, row_at, state_at}
use Rattle.region_cut.specs.Cuttings.{region_at, region_count}
use Rattle.region_cut.specs.Neighbours.{is_border}
use Rattle.region_step.specs.Start.{StartLists}

-- the step at which a cell's region starts
abbrev pub start_of : StartLists → (cut : List ℕ) → (i : ℕ) → ℕ
start_of start cut i = slice_index start.steps (region_at cut i)

-- what cell i held a step before s, in bounds; before step 0 there is nothing
pub record IsEarlierInBounds (net : Network) (s i n : ℕ) : Type 0 where
  pub later : (t : ℕ) → s ≡ t + 1 → IsHeldInBounds net t i n
  pub none : s ≡ 0 → n ≡ 0

-- the row of cell i is in bounds at its region's step, and what it held earlier a step before
pub record IsCellInBounds (net : Network) (cut : List ℕ) (start : StartLists) (i : ℕ) : Type 0 where
  pub row : IsRowInBounds net (start_of start cut i) i (row_at start.rows i)
  pub earlier : IsEarlierInBounds net (start_of start cut i) i (slice_index start.earlier i)

-- a start from which regions can be opened
pub record Fits (net : Network) (cut : List ℕ) (start : StartLists) : Type 0 where
  pub one_each : length start.steps ≡ region_count cut
  pub in_time : All (λ s. s ≤ net.steps) start.steps
  pub rows : length start.rows ≡ length net.cells
  pub earlier : length start.earlier ≡ length net.cells
  pub bounds : (i : ℕ) → i < length net.cells → IsCellInBounds net cut start i

-- a true start: each cell's row is that of the recurrences at its region's step, and each border cell's earlier
-- occupancy that of the step before
pub record IsTrueStart (net : Network) (cut : List ℕ) (start : StartLists) : Type 0 where
  pub rows : (i : ℕ) → i < length net.cells → row_at start.rows i ≡ row_at (state_at net (start_of start cut i)) i
  pub earlier : (i t : ℕ) → i < length net.cells → is_border net.connectors cut i ≡ true → start_of start cut i ≡ t + 1 →
      slice_index start.earlier i ≡ occupancy (state_at net t) i

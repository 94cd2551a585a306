-- What a region's connectors carry in a step, and what that moves into and out of its own cells.
use Rattle.std.specs.Prelude.{◌≡◌, ⊤, ℕ, ◌<◌, ◌≤◌, ◌+◌, ◌^◌, All, true, false, List, [], ◌∷◌, Option, None, length, map, slice_index, slice_index_or, slice_set, unwrap_or, if◌then◌else◌}
use Rattle.std.specs.List.{Contains, range_with_len}
use Rattle.step_plan.specs.Demand.{demand_at}
use Rattle.network_file.specs.Cells.{is_gate_at}
use Rattle.network_file.specs.Connectors.{cells_of, touches}
use Rattle.network_file.specs.Numbered.{connector_at}
use Rattle.network_file.specs.Network.{Network}
use Rattle.network_file.specs.Sound.{IsNetwork}
use Rattle.network_file.specs.declared.connector.Connector.{Connector}
use Rattle.network_file.specs.declared.connector.Connector.TheVariants.{Link, Merge, Diverge}
use Rattle.flow_model.specs.Bounds.{AreHeldInBounds, IsHeldInBounds, IsRowInBounds}
use Rattle.flow_model.specs.Flows.{flow_between, inflow, outflow}
use Rattle.flow_model.specs.Rows.{moved_row}
use Rattle.flow_model.specs.State.{occupancy, row_at}
use Rattle.flow_model.specs.declared.carried.Flow.{Flow}
use Rattle.flow_model.specs.declared.row.Row.{Row}
use Rattle.region_step.specs.Apart.{AreApart}
use Rattle.plain_region.specs.RegionConnectors.{IsRegionConnector, ref_at}
use Rattle.plain_region.specs.declared.change.Change.{Change}
use Rattle.plain_region.specs.declared.cell_ref.CellRef.{CellRef}
use Rattle.plain_region.specs.declared.cell_ref.CellRef.TheVariants.{Own, Halo}
use Rattle.plain_region.specs.declared.region_connector.RegionConnector.{RegionConnector}

-- what a cell holds
abbrev pub held_in : List Row → (put : List (Option ℕ)) → CellRef → ℕ
held_in rows put (Own p) = occupancy rows p
held_in rows put (Halo p) = unwrap_or (slice_index_or put p None) 0

-- the cell is there, where the region has so many of its own and so much was put for its halo
abbrev pub IsWithin : (count : ℕ) → (put : List (Option ℕ)) → CellRef → Type 0
IsWithin count put (Own p) = p < count
IsWithin count put (Halo p) = p < length put

-- where it is one of the region's own, it has a change among these
abbrev pub IsAmong : List Change → CellRef → Type 0
IsAmong changes (Own p) = p < length changes
IsAmong changes (Halo p) = ⊤

-- nothing enters or leaves
abbrev pub no_change : Change
no_change = record { enters = 0; leaves = 0 }

abbrev pub change_at : List Change → (p : ℕ) → Change
change_at changes p = slice_index_or changes p no_change

-- so much leaves a cell, or enters it; of the halo nothing is written
abbrev pub with_leaving : List Change → CellRef → (parts : ℕ) → List Change
with_leaving changes (Own p) parts = slice_set changes p (record (change_at changes p) { leaves = parts })
with_leaving changes (Halo p) parts = changes

abbrev pub with_entering : List Change → CellRef → (parts : ℕ) → List Change
with_entering changes (Own p) parts = slice_set changes p (record (change_at changes p) { enters = parts })
with_entering changes (Halo p) parts = changes

-- the changes once a connector has carried this flow
abbrev pub moved_by : Connector → RegionConnector → Flow → List Change → List Change
moved_by (Link up down) one flow changes =
    with_entering (with_leaving changes (ref_at one 0) flow.out1) (ref_at one 1) flow.in1
moved_by (Merge up1 up2 down p1 p2) one flow changes =
    with_entering (with_leaving (with_leaving changes (ref_at one 0) flow.out1) (ref_at one 1) flow.out2) (ref_at one 2) flow.in1
moved_by (Diverge up down1 down2 b1 b2) one flow changes =
    with_entering (with_entering (with_leaving changes (ref_at one 0) flow.out1) (ref_at one 1) flow.in1) (ref_at one 2) flow.in2

-- what a connector's three cells hold
abbrev pub three_held : RegionConnector → List Row → (put : List (Option ℕ)) → List ℕ
three_held one rows put = held_in rows put (ref_at one 0) ∷ held_in rows put (ref_at one 1) ∷ held_in rows put (ref_at one 2) ∷ []

-- what it carries in step t
abbrev pub carried_of : Network → (t : ℕ) → RegionConnector → List Row → (put : List (Option ℕ)) → Flow
carried_of net t one rows put = flow_between net t (connector_at net.connectors one.number) (three_held one rows put)

-- it can carry it
pub record CanCarry (net : Network) (t : ℕ) (one : RegionConnector) (rows : List Row) (put : List (Option ℕ)) : Type 0 where
  pub connector : one.number < length net.connectors
  pub before : t < net.steps
  pub refs : (m : ℕ) → m < 3 → IsWithin (length rows) put (ref_at one m)
  pub held : AreHeldInBounds net t (cells_of (connector_at net.connectors one.number)) (three_held one rows put)

-- what connectors bring to cell i and take from it in step t; what enters a gate is its demand alone
pub record IsChangeOf (net : Network) (t : ℕ) (n : ℕ → ℕ) (i : ℕ) (change : Change) : Type 0 where
  pub leaves : change.leaves ≡ outflow net t n i
  pub enters : is_gate_at net.cells i ≡ false → change.enters ≡ inflow net t n i

-- what enters a cell in step t: its gate's demand, or what connectors bring
abbrev pub enters_in_all : Network → (t i : ℕ) → Change → ℕ
enters_in_all net t i change = if is_gate_at net.cells i then demand_at net.plan i t else change.enters

-- a row that can change so
pub record CanChange (row : Row) (enters leaves : ℕ) : Type 0 where
  pub held : leaves ≤ row.n
  pub n : row.n + enters < 2 ^ 64
  pub come : row.come + enters < 2 ^ 64
  pub gone : row.gone + leaves < 2 ^ 64
  pub wait : row.wait + row.n < 2 ^ 64

-- the cell at place p is there, and its row can change as it does in step t
pub record CanChangeAt (net : Network) (t : ℕ) (cells : List ℕ) (rows : List Row) (changes : List Change) (p : ℕ) : Type 0 where
  pub there : slice_index cells p < length net.cells
  pub can : CanChange (row_at rows p) (enters_in_all net t (slice_index cells p) (change_at changes p)) (change_at changes p).leaves

-- the rows once each has changed
unfoldable pub rows_changed : Network → (t : ℕ) → (cells : List ℕ) → List Row → List Change → List Row
rows_changed net t cells rows changes =
    map (λ p. moved_row net (slice_index cells p) (row_at rows p) (enters_in_all net t (slice_index cells p) (change_at changes p)) (change_at changes p).leaves)
    (range_with_len 0 (length cells))

-- all that a region's step stands on: its cells, with a row in bounds for each; its halo, with an occupancy in bounds for each; and each
-- connector that touches one of its cells
pub record IsScene (net : Network) (t : ℕ) (cells halo : List ℕ) (connectors : List RegionConnector) (rows : List Row) (put : List (Option ℕ)) : Type 0 where
  pub sound : IsNetwork net
  pub before : t < net.steps
  pub apart : AreApart cells halo
  pub there : All (λ i. i < length net.cells) cells
  pub found : All (IsRegionConnector net cells halo) connectors
  pub whole : (i k : ℕ) → Contains cells i → k < length net.connectors → touches i (connector_at net.connectors k) ≡ true →
      Contains (map (λ one. one.number) connectors) k
  pub row_each : length rows ≡ length cells
  pub put_each : length put ≡ length halo
  pub own : (p : ℕ) → p < length cells → IsRowInBounds net t (slice_index cells p) (row_at rows p)
  pub around : (j : ℕ) → j < length halo → IsHeldInBounds net t (slice_index halo j) (unwrap_or (slice_index_or put j None) 0)

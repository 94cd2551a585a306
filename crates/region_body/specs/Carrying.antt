-- What the connectors that aren't chained carry in a step.
use Rattle.std.specs.Prelude.{◌≡◌, ◌≢◌, ℕ, ◌+◌, ◌^◌, ◌<◌, ◌≤◌, All, Bool, true, false, List, [], ◌∷◌, Option, length, slice_index, slice_index_or, sum_by}
use Rattle.network_file.specs.Numbered.{connector_at}
use Rattle.network_file.specs.Network.{Network}
use Rattle.connector_flow.specs.Flows.{flow_at}
use Rattle.connector_flow.specs.Following.{IsTimelineOf}
use Rattle.connector_flow.specs.Limits.{sends_second}
use Rattle.connector_flow.specs.declared.rule.Rule.{Rule}
use Rattle.connector_flow.specs.declared.rule.Rule.TheVariants.{Linking, Merging, Diverging}
use Rattle.flow_model.specs.declared.carried.Flow.{Flow}
use Rattle.region_body.specs.Chains.{AreDistinct}
use Rattle.region_body.specs.CellRefs.{AreRefsOf, IsWithin, given_before, parts_at, ref_at}
use Rattle.cell_sweep.specs.CellStates.{cell_state_at, with_entered, with_left}
use Rattle.region_body.specs.declared.cell_ref.CellRef.{CellRef}
use Rattle.cell_sweep.specs.declared.cell_state.CellState.{CellState}
use Rattle.region_body.specs.declared.followed_connector.FollowedConnector.{FollowedConnector}

-- the connector is one of the network: it finds its cells among these and those of the halo, and carries what the network has it carry
pub record IsConnectorAmong (net : Network) (cells halo : List ℕ) (connector : FollowedConnector) : Type 0 where
  pub there : connector.number < length net.connectors
  pub refs : AreRefsOf cells halo (connector_at net.connectors connector.number) connector.cells
  pub timeline : IsTimelineOf net (connector_at net.connectors connector.number) connector.timeline

-- so are these, where no cell stands at two places and none of the halo is one of the region's own
pub record AreConnectorsAmong (net : Network) (cells halo : List ℕ) (connectors : List FollowedConnector) : Type 0 where
  pub distinct : AreDistinct cells
  pub apart : (p j : ℕ) → p < length cells → j < length halo → slice_index cells p ≢ slice_index halo j
  pub each : All (IsConnectorAmong net cells halo) connectors

-- what its three cells hold
abbrev pub three_held : FollowedConnector → (held : CellRef → ℕ) → List ℕ
three_held connector held = held (ref_at connector.cells 0) ∷ held (ref_at connector.cells 1) ∷ held (ref_at connector.cells 2) ∷ []

-- what it is given of them: the first cell sends, the second one in a merge alone, and the third never
abbrev pub three_given : FollowedConnector → (given : (sends : Bool) → CellRef → ℕ) → List ℕ
three_given connector given =
    given true (ref_at connector.cells 0) ∷ given (sends_second connector.timeline.rule) (ref_at connector.cells 1) ∷ given false (ref_at connector.cells 2) ∷ []

-- what it carries in step t
abbrev pub carried_of : (t : ℕ) → FollowedConnector → (given : (sends : Bool) → CellRef → ℕ) → Flow
carried_of t connector given = flow_at connector.timeline t (three_given connector given)

-- it can carry it: its cells are there, where the region has so many of its own, and its limits are those of the step
pub record CanCarry (t : ℕ) (connector : FollowedConnector) (count : ℕ) (put : List (Option ℕ)) : Type 0 where
  pub refs : (m : ℕ) → m < 3 → IsWithin count put (ref_at connector.cells m)
  pub step : connector.timeline.step ≤ t
  pub until : t < connector.timeline.until

-- a connector that was followed to step t carries as before, within the same limits in that step
pub record IsConnectorFollowed (t : ℕ) (old new : FollowedConnector) : Type 0 where
  pub number : new.number ≡ old.number
  pub cells : new.cells ≡ old.cells
  pub rule : new.timeline.rule ≡ old.timeline.rule
  pub flow : (s : ℕ) (n : List ℕ) → flow_at new.timeline s n ≡ flow_at old.timeline s n
  pub step : new.timeline.step ≤ t
  pub later : t < new.timeline.until

-- so do all
pub record AreConnectorsFollowed (t : ℕ) (old new : List FollowedConnector) : Type 0 where
  pub long : length new ≡ length old
  pub each : (k : ℕ) (d : FollowedConnector) → k < length old → IsConnectorFollowed t (slice_index_or old k d) (slice_index_or new k d)

-- what a connector takes from place p by its rule, and what it brings to it
abbrev pub taken_by : Rule → FollowedConnector → Flow → (p : ℕ) → ℕ
taken_by Linking connector flow p = parts_at (ref_at connector.cells 0) flow.out1 p
taken_by Merging connector flow p = parts_at (ref_at connector.cells 0) flow.out1 p + parts_at (ref_at connector.cells 1) flow.out2 p
taken_by Diverging connector flow p = parts_at (ref_at connector.cells 0) flow.out1 p

abbrev pub brought_by : Rule → FollowedConnector → Flow → (p : ℕ) → ℕ
brought_by Linking connector flow p = parts_at (ref_at connector.cells 1) flow.in1 p
brought_by Merging connector flow p = parts_at (ref_at connector.cells 2) flow.in1 p
brought_by Diverging connector flow p = parts_at (ref_at connector.cells 1) flow.in1 p + parts_at (ref_at connector.cells 2) flow.in2 p

-- the same in step t
unfoldable pub taken : (t : ℕ) → (given : (sends : Bool) → CellRef → ℕ) → (p : ℕ) → FollowedConnector → ℕ
taken t given p connector = taken_by connector.timeline.rule connector (carried_of t connector given) p

unfoldable pub brought : (t : ℕ) → (given : (sends : Bool) → CellRef → ℕ) → (p : ℕ) → FollowedConnector → ℕ
brought t given p connector = brought_by connector.timeline.rule connector (carried_of t connector given) p

-- a state from which so much was taken and to which so much was brought
abbrev pub passed : CellState → (enters leaves : ℕ) → CellState
passed state enters leaves = with_entered (with_left state leaves) enters

-- it holds so much, and no sum is too large
pub record CanPass (state : CellState) (enters leaves : ℕ) : Type 0 where
  pub held : leaves ≤ state.n
  pub gone : state.gone + leaves < 2 ^ 64
  pub fits : state.n + enters < 2 ^ 64

-- so can each state what this connector takes from it and brings to it in step t, by these speeds and what cells held before
abbrev pub CanConnectorPass : (t : ℕ) → (speeds : List (ℕ × ℕ)) → (before : List ℕ) → (put : List (Option ℕ)) → FollowedConnector → List CellState → Type 0
CanConnectorPass t speeds before put connector states =
    (p : ℕ) → p < length states → CanPass (cell_state_at states p) (brought t (given_before speeds before put) p connector) (taken t (given_before speeds before put) p connector)

-- and it has
abbrev pub HasConnectorPassed : (t : ℕ) → (speeds : List (ℕ × ℕ)) → (before : List ℕ) → (put : List (Option ℕ)) → FollowedConnector → (old new : List CellState) → Type 0
HasConnectorPassed t speeds before put connector old new =
    (p : ℕ) → p < length old → cell_state_at new p ≡ passed (cell_state_at old p) (brought t (given_before speeds before put) p connector) (taken t (given_before speeds before put) p connector)

-- the same of what all these connectors take and bring
abbrev pub CanConnectorsPass : (t : ℕ) → (speeds : List (ℕ × ℕ)) → (before : List ℕ) → (put : List (Option ℕ)) → List FollowedConnector → List CellState → Type 0
CanConnectorsPass t speeds before put connectors states =
    (p : ℕ) → p < length states → CanPass (cell_state_at states p) (sum_by (brought t (given_before speeds before put) p) connectors) (sum_by (taken t (given_before speeds before put) p) connectors)

abbrev pub HaveConnectorsPassed : (t : ℕ) → (speeds : List (ℕ × ℕ)) → (before : List ℕ) → (put : List (Option ℕ)) → List FollowedConnector → (old new : List CellState) → Type 0
HaveConnectorsPassed t speeds before put connectors old new =
    (p : ℕ) → p < length old →
    cell_state_at new p ≡ passed (cell_state_at old p) (sum_by (brought t (given_before speeds before put) p) connectors) (sum_by (taken t (given_before speeds before put) p) connectors)

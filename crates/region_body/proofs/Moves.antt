-- What single connectors take from cells and bring to them, and what a region's connectors stand on in a step.
use Rattle.std.specs.Prelude.{◌≡◌, ◌==◌, ℕ, ◌<◌, List, Option, length, slice_index, if◌then◌else◌}
use Rattle.std.specs.List.{sum_by}
use Rattle.step_plan.specs.Demand.{demand_at}
use Rattle.step_plan.specs.Records.{PlanRecords}
use Rattle.network_file.specs.Numbered.{connector_at}
use Rattle.network_file.specs.Network.{Network}
use Rattle.network_file.specs.Sound.{IsNetwork}
use Rattle.flow_model.specs.Bounds.{IsHeldInBounds}
use Rattle.flow_model.specs.Flows.{entering, flow_of, leaving}
use Rattle.region_body.specs.CellRefs.{put_at}
use Rattle.cell_sweep.specs.CellStates.{cell_state_at}
use Rattle.cell_sweep.specs.declared.cell_state.CellState.{CellState}
use Rattle.region_body.specs.Carrying.{AreConnectorsAmong}
use Rattle.region_body.specs.declared.followed_connector.FollowedConnector.{FollowedConnector}

-- what connector k takes from cell i in step t, where the cells hold n
abbrev pub out_by : Network → (t : ℕ) → (ℕ → ℕ) → (i k : ℕ) → ℕ
out_by net t n i k = leaving i (connector_at net.connectors k) (flow_of net t n (connector_at net.connectors k))

-- and what it brings to it
abbrev pub in_by : Network → (t : ℕ) → (ℕ → ℕ) → (i k : ℕ) → ℕ
in_by net t n i k = entering i (connector_at net.connectors k) (flow_of net t n (connector_at net.connectors k))

-- what the gate at place q brings to place p in step t
abbrev pub demand_for : PlanRecords → (t : ℕ) → (cells : List ℕ) → (p q : ℕ) → ℕ
demand_for plan t cells p q = if q == p then demand_at plan (slice_index cells q) t else 0

-- from each place goes what these connectors take from its cell, and to it comes what they bring
pub record ArePartsOf (net : Network) (t : ℕ) (n : ℕ → ℕ) (cells : List ℕ) (connectors : List FollowedConnector) (outs ins : ℕ → ℕ) : Type 0 where
  pub taken : (p : ℕ) → p < length cells → outs p ≡ sum_by (λ connector. out_by net t n (slice_index cells p) connector.number) connectors
  pub brought : (p : ℕ) → p < length cells → ins p ≡ sum_by (λ connector. in_by net t n (slice_index cells p) connector.number) connectors

-- the region's cells and those of its halo, which are others, with an occupancy in bounds for each, and its connectors
pub record IsScene (net : Network) (t : ℕ) (cells halo : List ℕ) (connectors : List FollowedConnector) (states : List CellState) (put : List (Option ℕ)) : Type 0 where
  pub sound : IsNetwork net
  pub before : t < net.steps
  pub connected : AreConnectorsAmong net cells halo connectors
  pub state_each : length states ≡ length cells
  pub put_each : length put ≡ length halo
  pub own : (p : ℕ) → p < length cells → IsHeldInBounds net t (slice_index cells p) (cell_state_at states p).n
  pub around : (j : ℕ) → j < length halo → IsHeldInBounds net t (slice_index halo j) (put_at put j)

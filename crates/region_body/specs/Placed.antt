-- The rows of some cells, kept as states in their order.
use Rattle.std.specs.Prelude.{◌≡◌, ◌≢◌, ℕ, ◌-◌, ◌/◌, ◌^◌, ◌<◌, ◌≤◌, All, List, ◌++◌, Option, length, map, slice_index}
use Rattle.std.specs.List.{filter, range_with_len}
use Rattle.std.specs.List.Sorted.{IsStrictlyIncreasing}
use Rattle.network_file.specs.Numbered.{connector_at}
use Rattle.network_file.specs.Cells.{is_gate_at}
use Rattle.network_file.specs.Network.{Network}
use Rattle.flow_model.specs.Bounds.{IsHeldInBounds, IsRowInBounds}
use Rattle.flow_model.specs.Limits.{room_at}
use Rattle.flow_model.specs.State.{row_at}
use Rattle.region_body.specs.CellRefs.{put_at}
use Rattle.cell_sweep.specs.CellStates.{cell_state_at}
use Rattle.connector_flow.specs.Space.{IsSpaceOf}
use Rattle.cell_sweep.specs.declared.cell_state.CellState.{CellState}
use Rattle.timelines.specs.Timelines.{value_at}
use Rattle.region_body.specs.FollowedLinks.{AreFollowed, IsLinkThere}
use Rattle.region_body.specs.declared.followed_link.FollowedLink.{FollowedLink}
use Rattle.region_body.specs.Chains.{AreAround, most_out, odd_ones}
use Rattle.region_body.specs.Joining.{AreKnown}
use Rattle.region_body.specs.Carrying.{AreConnectorsAmong}
use Rattle.region_body.specs.Pausing.{IsPauseOf}
use Rattle.region_body.specs.Rows.{IsOf, constants_at, rows_of}
use Rattle.cell_sweep.specs.SpeedZones.{AreZones}
use Rattle.cell_sweep.specs.Speeds.{is_slow}
use Rattle.region_body.specs.FollowedSpeeds.{AreSpeedsOf}
use Rattle.region_body.specs.declared.followed_speed.FollowedSpeed.{FollowedSpeed}
use Rattle.cell_sweep.specs.declared.speed_zone.SpeedZone.{SpeedZone}
use Rattle.region_body.specs.Gates.{IsGateOf}
use Rattle.region_body.specs.declared.gate.GatePlace.{GatePlace}
use Rattle.region_body.specs.declared.cell_constants.CellConstants.{CellConstants}
use Rattle.region_body.specs.declared.pause.Pause.{Pause}
use Rattle.region_body.specs.declared.followed_connector.FollowedConnector.{FollowedConnector}

pub record PlacedCells : Type 0 where
  -- a state for each cell, what never changes of it, and what it held a step before
  pub states : List CellState
  pub constants : List CellConstants
  pub before : List ℕ
  -- the speed at each place and then in each cell of the halo, where own cells lie that have speed records, and how speeds
  -- change, none before a step
  pub speeds : List (ℕ × ℕ)
  pub zones : List SpeedZone
  pub speed_timelines : List FollowedSpeed
  pub speeds_until : ℕ
  -- the links to neighbours whose most changes, and the other connectors, none of which changes before a step
  pub links : List FollowedLink
  pub connectors : List FollowedConnector
  pub connectors_until : ℕ
  -- the gates among them
  pub gates : List GatePlace
  -- for how long nothing moves among them, and what was seen of their halo when that was found
  pub pause : Pause
  pub seen : List (Option ℕ)

-- what holds of cells as they are placed when step t begins
pub record ArePlaced (net : Network) (cells halo connectors : List ℕ) (t : ℕ) (placed : PlacedCells) : Type 0 where
  pub around : AreAround net cells connectors
  pub known : All (λ k. AreKnown cells halo (connector_at net.connectors k)) connectors
  pub connected : AreConnectorsAmong net cells halo placed.connectors
  pub numbers : map (λ connector. connector.number) placed.connectors ≡ odd_ones net cells connectors
  pub one_each : length placed.states ≡ length cells
  pub constants_each : length placed.constants ≡ length cells
  pub before_each : length placed.before ≡ length cells
  pub own : (p : ℕ) → p < length cells → IsOf net (slice_index cells p) (constants_at placed.constants p) (cell_state_at placed.states p)
  pub space : (p : ℕ) → p < length cells → IsSpaceOf (cell_state_at placed.states p).space (room_at net.cells (slice_index cells p))
  pub come : All (λ connector. connector.timeline.step ≤ t) placed.connectors
  pub unchanged : All (λ connector. placed.connectors_until ≤ connector.timeline.until) placed.connectors
  pub gates : map (λ gate. gate.place) placed.gates ≡ filter (λ p. is_gate_at net.cells (slice_index cells p)) (range_with_len 0 (length cells))
  pub demands : All (IsGateOf net cells t) placed.gates
  pub links : All (IsLinkThere (length placed.states) t) placed.links
  pub speeds : AreSpeedsOf net (cells ++ halo) placed.speed_timelines placed.speeds t placed.speeds_until
  pub zones : AreZones (is_slow net cells) ((length cells - 1) / 4) placed.zones
  pub followed : AreFollowed (most_out net cells connectors) placed.states placed.links t
  pub pause : IsPauseOf placed.states placed.before placed.speeds placed.speeds_until placed.links placed.connectors placed.seen t placed.pause
  pub seen_each : length placed.seen ≡ length halo

-- the rows are in bounds, and so is what was put for each cell of the halo
pub record AreStatesInBounds (net : Network) (cells halo : List ℕ) (t : ℕ) (placed : PlacedCells) (put : List (Option ℕ)) : Type 0 where
  pub own : (p : ℕ) → p < length cells → IsRowInBounds net t (slice_index cells p) (row_at (rows_of placed.constants placed.states) p)
  pub put_each : length put ≡ length halo
  pub around : (j : ℕ) → j < length halo → IsHeldInBounds net t (slice_index halo j) (put_at put j)

-- the cells hold n: those of the region by their states, those of its halo by what was put there
pub record IsSeen (n : ℕ → ℕ) (cells halo : List ℕ) (states : List CellState) (put : List (Option ℕ)) : Type 0 where
  pub own : (p : ℕ) → p < length cells → n (slice_index cells p) ≡ (cell_state_at states p).n
  pub around : (j : ℕ) → j < length halo → n (slice_index halo j) ≡ put_at put j

-- all that a step stands on; the cells hold n as it begins
pub record CanAdvance (net : Network) (cells : List ℕ) (t : ℕ) (placed : PlacedCells) (put : List (Option ℕ)) : Type 0 where
  pub halo : List ℕ
  pub connectors : List ℕ
  pub n : ℕ → ℕ
  pub laid : ArePlaced net cells halo connectors t placed
  pub bounds : AreStatesInBounds net cells halo t placed put
  pub seen : IsSeen n cells halo placed.states put

-- nothing moves among the cells in step t: their pause isn't over, their halo holds what was seen, and no gate demands anything
pub record WaitThrough (t : ℕ) (placed : PlacedCells) (put : List (Option ℕ)) : Type 0 where
  pub paused : t < placed.pause.until
  pub same : placed.seen ≡ put
  pub demand_nothing : All (λ gate. value_at gate.timeline t ≡ 0) placed.gates

-- cells, their halo and the connectors that touch them, as a region has them
pub record AreCells (net : Network) (cells halo connectors : List ℕ) : Type 0 where
  pub around : AreAround net cells connectors
  pub halo_rising : IsStrictlyIncreasing halo
  pub halo_there : All (λ i. i < length net.cells) halo
  pub apart : (p j : ℕ) → p < length cells → j < length halo → slice_index cells p ≢ slice_index halo j
  pub there : All (λ k. k < length net.connectors) connectors
  pub known : All (λ k. AreKnown cells halo (connector_at net.connectors k)) connectors
  pub few : length cells < 2 ^ 32
  pub few_halo : length halo < 2 ^ 32

-- Cells among which nothing moves.
use Rattle.std.specs.Prelude.{◌≡◌, ◌<◌, ◌≤◌, ◌⊎◌, ℕ, All, List, Option, length, slice_index}
use Rattle.connector_flow.specs.Flows.{flow_at, no_flow}
use Rattle.cell_sweep.specs.Moving.{MoveNothing}
use Rattle.cell_sweep.specs.CellStates.{cell_state_at}
use Rattle.cell_sweep.specs.declared.cell_state.CellState.{CellState}
use Rattle.region_body.specs.declared.followed_link.FollowedLink.{FollowedLink}
use Rattle.region_body.specs.Carrying.{three_given}
use Rattle.region_body.specs.CellRefs.{given_now}
use Rattle.region_body.specs.declared.pause.Pause.{Pause}
use Rattle.region_body.specs.declared.followed_connector.FollowedConnector.{FollowedConnector}

-- the connector carries nothing before this step, as long as its cells hold what they do and these speeds stay
abbrev pub IsIdleUntil : (speeds : List (ℕ × ℕ)) → List CellState → (put : List (Option ℕ)) → (until : ℕ) → FollowedConnector → Type 0
IsIdleUntil speeds states put until connector =
    (s : ℕ) → connector.timeline.step ≤ s → s < until → flow_at connector.timeline s (three_given connector (given_now speeds states put)) ≡ no_flow

-- before this step nothing moves by these links between neighbours nor by these connectors, as long as the halo holds this
pub record AreIdle (states : List CellState) (speeds : List (ℕ × ℕ)) (speeds_until : ℕ) (links : List FollowedLink) (connectors : List FollowedConnector) (put : List (Option ℕ)) (until : ℕ) : Type 0 where
  pub still : MoveNothing states speeds
  pub stays : until ≤ speeds_until
  -- a link that changes earlier leads out of an empty cell
  pub changes : All (λ link. (cell_state_at states link.place).n ≡ 0 ⊎ until ≤ link.until) links
  pub carry_nothing : All (IsIdleUntil speeds states put until) connectors

-- the pause of cells with these states and what they held a step before, as step t begins
pub record IsPauseOf (states : List CellState) (earlier : List ℕ) (speeds : List (ℕ × ℕ)) (speeds_until : ℕ) (links : List FollowedLink) (connectors : List FollowedConnector) (seen : List (Option ℕ)) (t : ℕ) (pause : Pause) : Type 0 where
  pub idle : (s : ℕ) → s < pause.until → AreIdle states speeds speeds_until links connectors seen pause.until
  pub owed : pause.owed ≤ t
  -- once they wait they held before what they hold
  pub kept : 1 ≤ pause.owed → (p : ℕ) → p < length states → slice_index earlier p ≡ (cell_state_at states p).n

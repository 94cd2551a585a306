-- A cell is joined to the next.
use Rattle.std.specs.Prelude.{◌≡◌, ◌≢◌, ◌<◌, ◌⊎◌, ℕ, ◌+◌, Bool, true, All, List, length, slice_index}
use Rattle.std.specs.List.{Contains}
use Rattle.network_file.specs.declared.connector.Connector.{Connector}
use Rattle.region_cut.specs.ConnectorCells.{three_cells}
use Rattle.step_plan.specs.Records.{PlanRecords}
use Rattle.timelines.specs.Links.{most_between}
use Rattle.region_body.specs.declared.followed_link.FollowedLink.{FollowedLink}

-- what links carry at most now, and after the p-th of these cells was joined to the next
pub record Extends (plan : PlanRecords) (cells : List ℕ) (p : ℕ) (links : List FollowedLink) (most later : ℕ → ℕ → ℕ) : Type 0 where
  pub here : (s : ℕ) → later p s ≡ most_between plan (slice_index cells p) (slice_index cells (p + 1)) s
  pub others : (q s : ℕ) → q ≢ p → later q s ≡ most q s
  pub linked : All (λ link. (s : ℕ) → later link.place s ≡ most link.place s) links

-- all links that are new are those of place p
pub record IsAt (p : ℕ) (old new : List FollowedLink) : Type 0 where
  pub each : (test : ℕ → Bool) → All (λ link. test link.place ≡ true) old → test p ≡ true → All (λ link. test link.place ≡ true) new

-- the cell stands at this place
pub record IsPlacedAt (cells : List ℕ) (i p : ℕ) : Type 0 where
  pub within : p < length cells
  pub is : slice_index cells p ≡ i

-- or at none
abbrev pub IsNoneOf : (cells : List ℕ) → (i : ℕ) → Type 0
IsNoneOf cells i = (p : ℕ) → IsPlacedAt cells i p → ⊥

-- the cell is one of these or of the halo
abbrev pub IsKnown : (cells halo : List ℕ) → (i : ℕ) → Type 0
IsKnown cells halo i = Contains cells i ⊎ Contains halo i

-- so is each cell of the connector
pub record AreKnown (cells halo : List ℕ) (connector : Connector) : Type 0 where
  pub each : (m : ℕ) → m < 3 → IsKnown cells halo (slice_index (three_cells connector) m)

-- Links between neighbours, followed as the most that they carry changes.
use Rattle.std.specs.Prelude.{◌≡◌, ℕ, ◌<◌, ◌≤◌, ◌⊎◌, All, List, length, slice_index_or}
use Rattle.cell_sweep.specs.CellStates.{cell_state_at}
use Rattle.cell_sweep.specs.declared.cell_state.CellState.{CellState}
use Rattle.timelines.specs.Timelines.{IsSteady}
use Rattle.timelines.specs.Links.{most_at}
use Rattle.region_body.specs.declared.followed_link.FollowedLink.{FollowedLink}

-- the link's place is there, and the link was followed to no step past t
pub record IsLinkThere (count t : ℕ) (link : FollowedLink) : Type 0 where
  pub place : link.place < count
  pub step : link.timeline.step ≤ t

-- the link follows the most that the link out of its place carries
abbrev pub IsTimeline : (ℕ → ℕ → ℕ) → FollowedLink → Type 0
IsTimeline most link = (s : ℕ) → most_at link.timeline s ≡ most link.place s

-- the link's next change is past step t
pub record IsUnchanged (old new : FollowedLink) (before after : CellState) (t : ℕ) : Type 0 where
  pub later : t < old.until
  pub until : new.until ≡ old.until
  pub most : after.most ≡ before.most

-- the state has the most of step t, which stays until the link's next change
pub record IsChanged (old new : FollowedLink) (after : CellState) (t : ℕ) : Type 0 where
  pub most : after.most ≡ most_at old.timeline t
  pub steady : IsSteady (most_at old.timeline) t new.until

-- link m follows the most of place p, and until the link's next change the state has the most of each step
pub record IsFollowed (most : ℕ → ℕ → ℕ) (state : CellState) (links : List FollowedLink) (t p m : ℕ) : Type 0 where
  pub there : m < length links
  pub its : (d : FollowedLink) → (slice_index_or links m d).place ≡ p
  pub steady : (d : FollowedLink) (s : ℕ) → t ≤ s → s < (slice_index_or links m d).until → state.most ≡ most p s

-- each link follows the most of its place, and each state has the most of all steps from t on, or a link follows it
pub record AreFollowed (most : ℕ → ℕ → ℕ) (states : List CellState) (links : List FollowedLink) (t : ℕ) : Type 0 where
  pub timelines : All (IsTimeline most) links
  pub each : (p : ℕ) → p < length states →
      ((s : ℕ) → t ≤ s → (cell_state_at states p).most ≡ most p s) ⊎ ((m : ℕ) × IsFollowed most (cell_state_at states p) links t p m)

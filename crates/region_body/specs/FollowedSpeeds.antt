-- The speeds in a region's cells and in those of its halo, followed forward.
use Rattle.std.specs.Prelude.{◌≡◌, ◌≢◌, ◌==◌, ℕ, ◌<◌, ◌≤◌, All, Bool, true, false, List, length, slice_index, slice_index_or}
use Rattle.std.specs.List.{list_any}
use Rattle.step_plan.specs.Speeds.{speed_at}
use Rattle.network_file.specs.Network.{Network}
use Rattle.timelines.specs.Timelines.{value_at}
use Rattle.cell_sweep.specs.Speeds.{is_slow, ratio_at}
use Rattle.region_body.specs.declared.followed_speed.FollowedSpeed.{FollowedSpeed}

-- one of these speeds is that of the place
abbrev pub is_listed : List FollowedSpeed → (p : ℕ) → Bool
is_listed timelines p = list_any (λ one. one.place == p) timelines

-- its place is there, and it was followed to no step past t
pub record IsSpeedThere (count t : ℕ) (one : FollowedSpeed) : Type 0 where
  pub place : one.place < count
  pub step : one.timeline.step ≤ t

-- it is in all steps what it was
pub record IsSpeedAsBefore (old new : FollowedSpeed) : Type 0 where
  pub place : new.place ≡ old.place
  pub value : (t : ℕ) → value_at new.timeline t ≡ value_at old.timeline t

-- so are all
pub record AreSpeedsAsBefore (old new : List FollowedSpeed) : Type 0 where
  pub long : length new ≡ length old
  pub each : (k : ℕ) (d : FollowedSpeed) → k < length old → IsSpeedAsBefore (slice_index_or old k d) (slice_index_or new k d)

-- from step t until another each of these places has its speed
abbrev pub AreSpeedsInForce : (speed : ℕ → ℕ → ℕ × ℕ) → (timelines : List FollowedSpeed) → (speeds : List (ℕ × ℕ)) → (t until : ℕ) → Type 0
AreSpeedsInForce speed timelines speeds t until =
    (p : ℕ) → is_listed timelines p ≡ true → (s : ℕ) → t ≤ s → s < until → ratio_at speeds p ≡ speed p s

-- the speed in the p-th of these cells in step t
abbrev pub cell_speed : Network → (cells : List ℕ) → (p t : ℕ) → ℕ × ℕ
cell_speed net cells p t = speed_at net.plan (slice_index cells p) t

-- the speed in one of these cells, followed to step 0
pub record IsSpeedOpened (net : Network) (cells : List ℕ) (one : FollowedSpeed) : Type 0 where
  pub place : one.place < length cells
  pub slow : is_slow net cells one.place ≡ true
  pub step : one.timeline.step ≡ 0
  pub value : (s : ℕ) → value_at one.timeline s ≡ cell_speed net cells one.place s

-- the speeds of these cells, all or none, as step t begins, which are followed where a cell has speed records, and stay before a step
pub record AreSpeedsOf (net : Network) (cells : List ℕ) (timelines : List FollowedSpeed) (speeds : List (ℕ × ℕ)) (t until : ℕ) : Type 0 where
  pub there : All (IsSpeedThere (length speeds) t) timelines
  pub known : length speeds ≢ 0 → length cells ≤ length speeds
  pub values : All (λ one. (s : ℕ) → value_at one.timeline s ≡ cell_speed net cells one.place s) timelines
  pub slow : All (λ one. is_slow net cells one.place ≡ true) timelines
  pub whole : (p : ℕ) → p < length cells → is_slow net cells p ≡ true → is_listed timelines p ≡ true
  pub in_force : AreSpeedsInForce (cell_speed net cells) timelines speeds t until
  pub others : (p : ℕ) → is_listed timelines p ≡ false → ratio_at speeds p ≡ (1, 1)

-- What the parts of a turn leave.
use Rattle.std.specs.Prelude.{◌≡◌, ℕ, ◌+◌, ◌<◌, ◌≤◌, [], ◌∷◌, ◌++◌, Some, None, true, length, max, slice_index, slice_index_or}
use Rattle.std.specs.List.{Contains}
use Rattle.region_cut.specs.Neighbours.{are_neighbours}
use Rattle.region_step.specs.Grid.{grid_held}
use Rattle.region_step.specs.Laws.{grid_state}
use Rattle.region_step.specs.Opened.{IsIn, halo_cells}
use Rattle.region_step.specs.Region.{RegionValue}
use Rattle.border_rows.specs.Kinds.{later_of, looked, raised, with_first}
use Rattle.border_rows.specs.declared.view.Hold.{Hold}
use Rattle.border_rows.specs.declared.view.Terms.{Terms}
use Rattle.border_rows.specs.declared.view.View.{View}
use Rattle.region_slots.specs.FieldView.{IsWorkingAt}

-- what cell i holds at step t
abbrev pub field_held : Terms → (t i : ℕ) → ℕ
field_held terms t i = grid_held terms.setup.now.net terms.setup.now.chart.cut terms.setup.now.start t i

-- region r at step t, told what the first j cells of its halo hold
pub record IsTold (terms : Terms) (r t j : ℕ) (region : RegionValue) : Type 0 where
  pub opened : IsIn terms.setup.now.net terms.setup.now.chart region
  pub state : region.state ≡ record (grid_state terms.setup.now.net terms.setup.now.chart terms.setup.now.start terms.setup.now.every r t) { put = region.state.put }
  pub one_each : length region.state.put ≡ length (halo_cells terms.setup.now.chart r)
  pub told : (k : ℕ) → k < j → slice_index_or region.state.put k None ≡ Some (field_held terms t (slice_index (halo_cells terms.setup.now.chart r) k))

-- the view works at region r, at this step
pub record IsAt (view : View) (r t : ℕ) : Type 0 where
  pub hold : Hold
  pub works : IsWorkingAt view hold
  pub region : hold.region ≡ r
  pub step : hold.step ≡ t

-- all neighbours of the region that a view holds last are cleared
pub record IsCleared (terms : Terms) (view : View) : Type 0 where
  pub all : (hold : Hold) (q : ℕ) → IsWorkingAt view hold → are_neighbours terms.setup.now.net.connectors terms.setup.now.chart.cut hold.region q ≡ true → Contains hold.cleared q

-- so many border words of the step to come are written
pub record HasWritten (view : View) (j : ℕ) : Type 0 where
  pub many : (hold : Hold) → IsWorkingAt view hold → hold.written ≡ j

-- each region is seen at the step at which it was seen before, or past it
pub record IsLater (old new : View) : Type 0 where
  pub long : length new.seen ≡ length old.seen
  pub later : (q : ℕ) → slice_index old.seen q ≤ slice_index new.seen q

-- what no part of a turn changes once the region is taken
pub record IsAlike (old new : View) : Type 0 where
  pub terms : new.terms ≡ old.terms
  pub share : new.share ≡ old.share
  pub splits : new.splits ≡ old.splits
  pub held_found : new.held_found ≡ old.held_found
  pub moments : (new.moments ≡ old.moments) × (new.moment ≡ old.moment)
  pub seen : IsLater old new

-- nothing was published
pub record IsStill (old new : View) : Type 0 where
  pub alike : IsAlike old new
  pub log : new.log ≡ old.log
  pub reach : new.reach ≡ old.reach

-- and no neighbour was found a step lower
pub record HasFound (old new : View) : Type 0 where
  pub short_found : new.short_found ≡ old.short_found
  pub last_short : new.last_short ≡ old.last_short

-- region r was taken, and its step t looked at
abbrev pub took_at : View → (r t : ℕ) → View
took_at view r t = record (looked view r t) { takes = raised view.takes r; tried = view.tried ++ r ∷ [] }

-- so many words of the row of the step to come are written
abbrev pub wrote_many : View → (n : ℕ) → View
wrote_many view n = record view { holds = with_first (λ hold. record hold { written = n }) view.holds }

-- a view that has looked at neighbours of the region that it holds last and has found none a step lower
pub record HasLooked (old new : View) (hold : Hold) : Type 0 where
  pub still : IsStill old new
  pub found : HasFound old new
  pub looks : new.looks ≡ old.looks
  pub takes : new.takes ≡ old.takes
  pub tried : new.tried ≡ old.tried
  pub later : later_of new.holds ≡ later_of old.holds
  pub now : Hold
  pub works : IsWorkingAt new now
  pub region : now.region ≡ hold.region
  pub step : now.step ≡ hold.step
  pub written : now.written ≡ hold.written

-- a view that has found neighbour q of region r a step lower, at step s
pub record HasFallenShort (old new : View) (r q s : ℕ) : Type 0 where
  pub still : IsStill old new
  pub looks : new.looks ≡ old.looks
  pub takes : new.takes ≡ old.takes
  pub tried : new.tried ≡ old.tried
  pub later : later_of new.holds ≡ later_of old.holds
  pub one_more : new.short_found ≡ old.short_found + 1
  pub last : new.last_short ≡ record { region = r; neighbour = q; step = s }
  pub before : slice_index old.seen q ≤ s
  pub after : slice_index new.seen q ≡ s
  pub now : Hold
  pub works : IsWorkingAt new now

-- region r was found at a step below goal, and its neighbour q a step lower, at step s
pub record IsBehind (terms : Terms) (old new : View) (goal r q s : ℕ) : Type 0 where
  pub beside : are_neighbours terms.setup.now.net.connectors terms.setup.now.chart.cut r q ≡ true
  pub still : IsStill old new
  pub looks : new.looks ≡ raised old.looks r
  pub takes : new.takes ≡ raised old.takes r
  pub tried : new.tried ≡ old.tried ++ r ∷ []
  pub one_more : new.short_found ≡ old.short_found + 1
  pub last : new.last_short ≡ record { region = r; neighbour = q; step = s }
  pub below : s + 1 < goal
  pub own : (slice_index old.seen r ≤ s + 1) × (s + 1 ≤ slice_index new.seen r)
  pub other : (slice_index old.seen q ≤ s) × (s ≤ slice_index new.seen q)

-- region r was taken through the step before s
pub record IsMoved (terms : Terms) (old new : View) (goal r s : ℕ) : Type 0 where
  pub alike : IsAlike old new
  pub found : HasFound old new
  pub looks : new.looks ≡ raised old.looks r
  pub takes : new.takes ≡ raised old.takes r
  pub tried : new.tried ≡ old.tried ++ r ∷ []
  pub log : new.log ≡ record { region = r; step = s } ∷ old.log
  pub reach : new.reach ≡ max old.reach s
  pub below : s ≤ goal
  pub own : slice_index old.seen r + 1 ≤ s
  pub seen : slice_index new.seen r ≡ s
  pub around : (q : ℕ) → are_neighbours terms.setup.now.net.connectors terms.setup.now.chart.cut r q ≡ true → s ≤ slice_index new.seen q + 1

-- what every turn keeps of a pass: its share, its splits, what it has seen, how many steps it has published, and that it has
-- published nothing past goal
pub record IsWithin (old new : View) (goal : ℕ) : Type 0 where
  pub share : new.share ≡ old.share
  pub splits : new.splits ≡ old.splits
  pub seen : IsLater old new
  pub moves : length old.log ≤ length new.log
  pub risen : old.reach ≤ new.reach
  pub reach : new.reach ≤ max old.reach goal
  pub held_found : (q : ℕ) → slice_index old.held_found q ≤ slice_index new.held_found q
  pub short_found : old.short_found ≤ new.short_found
  pub looks : (q : ℕ) → slice_index old.looks q ≤ slice_index new.looks q

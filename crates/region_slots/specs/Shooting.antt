-- What a shot finds of a field, and what it leaves of a pass.
use Rattle.std.specs.Prelude.{◌≡◌, ℕ, ◌+◌, ◌<◌, ◌≤◌, List, length, max, slice_index}
use Rattle.flow_model.specs.Bounds.{KeepsRooms}
use Rattle.flow_model.specs.State.{row_at, state_at}
use Rattle.region_cut.specs.Cuttings.{region_at, region_count}
use Rattle.region_step.specs.Starting.{IsTrueStart}
use Rattle.snapshot.specs.Rooms.{IsRoomFor, RoomValue}
use Rattle.snapshot.specs.Shots.{KeepsBooks}
use Rattle.snapshot.specs.Snapshots.{IsSnapshot}
use Rattle.border_rows.specs.declared.view.Terms.{Terms}
use Rattle.border_rows.specs.declared.view.View.{View}
use Rattle.region_slots.specs.Closing.{steps_since}
use Rattle.region_slots.specs.Turning.{HasFound, IsLater}
use Rattle.region_slots.specs.declared.shot.Shot.{Shot}
use Rattle.region_slots.specs.declared.shot.Shot.TheVariants.{Busy, Taken}

-- what every shot keeps of a pass: nothing was published, no neighbour was found a step lower, and nothing is forgotten
pub record IsUnmoved (old new : View) : Type 0 where
  pub terms : new.terms ≡ old.terms
  pub share : new.share ≡ old.share
  pub splits : new.splits ≡ old.splits
  pub log : new.log ≡ old.log
  pub reach : new.reach ≡ old.reach
  pub found : HasFound old new
  pub seen : IsLater old new
  pub held_found : (q : ℕ) → slice_index old.held_found q ≤ slice_index new.held_found q
  pub looks : (q : ℕ) → slice_index old.looks q ≤ slice_index new.looks q

-- the room shows a lawful snapshot, whose steps were all looked at in this call and are what the pass has seen now, no less
-- than before. The pass held all regions together, at these steps, at one moment more. No road holds more than its room.
-- From a true start the row of each cell is that of the plain recurrences at the step of its region, and the books balance.
pub record HasShot (terms : Terms) (old new : View) (room : RoomValue) : Type 0 where
  pub snapshot : IsSnapshot terms.setup.now.net terms.setup.now.chart.cut terms.setup.now.start room
  pub seen : new.seen ≡ room.steps
  pub later : (r : ℕ) → r < region_count terms.setup.now.chart.cut → slice_index old.seen r ≤ slice_index room.steps r
  pub looks : (r : ℕ) → r < region_count terms.setup.now.chart.cut → slice_index new.looks r ≡ slice_index old.looks r + 1
  pub moments : new.moments ≡ old.moments + 1
  pub moment : new.moment ≡ room.steps
  pub rooms : KeepsRooms terms.setup.now.net room.rows
  pub recurrences : IsTrueStart terms.setup.now.net terms.setup.now.chart.cut terms.setup.now.start → (i : ℕ) → i < length terms.setup.now.net.cells →
      row_at room.rows i ≡ row_at (state_at terms.setup.now.net (slice_index room.steps (region_at terms.setup.now.chart.cut i))) i
  pub books : IsTrueStart terms.setup.now.net terms.setup.now.chart.cut terms.setup.now.start → KeepsBooks terms.setup.now.net terms.setup.now.chart.cut room.rows

-- the steps of all regions as the whole share finds them: they are its moves since the start, and none lies past both the
-- start and its reach
pub record IsWhole (terms : Terms) (view : View) (steps : List ℕ) : Type 0 where
  pub moves : steps_since terms.setup.now.start (region_count terms.setup.now.chart.cut) steps ≡ length view.log
  pub reached : (r : ℕ) → r < region_count terms.setup.now.chart.cut → slice_index steps r ≤ max (slice_index terms.setup.now.start.steps r) view.reach

-- region r was found taken at each of the tries
pub record IsBusy (terms : Terms) (old new : View) (r tries : ℕ) : Type 0 where
  pub there : r < region_count terms.setup.now.chart.cut
  pub held_found : slice_index new.held_found r ≡ slice_index old.held_found r + tries
  pub moments : (new.moments ≡ old.moments) × (new.moment ≡ old.moment)

-- what came of a shot, by its answer
pub record IsShotOf (terms : Terms) (tries : ℕ) (old new : View) (before after : RoomValue) (shot : Shot) : Type 0 where
  pub room : IsRoomFor terms.setup.now.chart after
  pub unmoved : IsUnmoved old new
  -- no region was found taken more often than it was tried
  pub tried : (q : ℕ) → slice_index new.held_found q ≤ slice_index old.held_found q + tries
  pub taken : shot ≡ Taken → HasShot terms old new after
  pub busy : (r : ℕ) → shot ≡ Busy r → IsBusy terms old new r tries
  pub unchanged : (r : ℕ) → shot ≡ Busy r → after ≡ before
  -- the whole share finds no region taken, and shows the present state of the field
  pub never_busy : old.share ≡ terms.seats → shot ≡ Taken
  pub whole : old.share ≡ terms.seats → IsWhole terms new after.steps

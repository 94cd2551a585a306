-- What comes of a sweep: one turn on each region.
use Rattle.std.specs.Prelude.{◌≡◌, ℕ, ◌+◌, ◌<◌, ◌≤◌, length, slice_index}
use Rattle.std.specs.List.{sum}
use Rattle.border_rows.specs.declared.view.View.{View}
use Rattle.region_slots.specs.Turning.{IsWithin}
use Rattle.region_slots.specs.declared.turn.Turn.{Turn}
use Rattle.region_slots.specs.declared.turn.Turn.TheVariants.{Behind, Ended, Held, Moved}
use Rattle.parked_crew.specs.Parking.{HasSeenAll}
use Rattle.parked_crew.specs.declared.swept.Swept.{Swept}

-- no turn
abbrev pub none : Swept
none = record { moved = 0; held = 0; behind = 0; ended = 0 }

-- one turn more
unfoldable pub counted : Swept → Turn → Swept
counted swept (Moved s) = record swept { moved = swept.moved + 1 }
counted swept Held = record swept { held = swept.held + 1 }
counted swept (Behind q s) = record swept { behind = swept.behind + 1 }
counted swept (Ended s) = record swept { ended = swept.ended + 1 }

-- how many turns
abbrev pub turns_of : Swept → ℕ
turns_of swept = swept.moved + swept.held + swept.behind + swept.ended

-- how often a pass has found region r taken or looked at its step
abbrev pub tries_at : View → (r : ℕ) → ℕ
tries_at view r = slice_index view.held_found r + slice_index view.looks r

-- one turn on each of the first so many regions, and how many came to each answer. Where all found their region at goal or
-- past it, each of these was seen there.
pub record HasSwept (count goal : ℕ) (old new : View) (swept : Swept) : Type 0 where
  pub keeps : IsWithin old new goal
  pub tried : (r : ℕ) → r < count → tries_at new r ≡ tries_at old r + 1
  pub others : (r : ℕ) → count ≤ r → tries_at new r ≡ tries_at old r
  pub turns : turns_of swept ≡ count
  pub moved : length new.log ≡ length old.log + swept.moved
  pub held : sum new.held_found ≡ sum old.held_found + swept.held
  pub behind : new.short_found ≡ old.short_found + swept.behind
  pub ended : swept.ended ≡ count → HasSeenAll count goal new

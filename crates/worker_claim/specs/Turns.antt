-- What comes of one turn on each region of a range.
use Rattle.std.specs.Prelude.{◌≡◌, ◌≢◌, ◌⊎◌, ℕ, ◌+◌, ◌<◌, ◌≤◌, IsTrue, false, length, slice_index}
use Rattle.std.specs.List.{sum}
use Rattle.region_cut.specs.Cuttings.{region_count}
use Rattle.border_rows.specs.declared.view.Terms.{Terms}
use Rattle.border_rows.specs.declared.view.View.{View}
use Rattle.region_slots.specs.Turning.{IsWithin}
use Rattle.region_slots.specs.declared.turn.Turn.{Turn}
use Rattle.region_slots.specs.declared.turn.Turn.TheVariants.{Behind, Ended, Held, Moved}
use Rattle.worker_claim.specs.Driving.{AllReach, tries_at, tries_of}
use Rattle.worker_claim.specs.declared.driven.Driven.{Driven}

-- no turn
abbrev pub none : Driven
none = record { moved = 0; held = 0; behind = 0; ended = 0; all = false }

-- one turn more
unfoldable pub counted : Driven → Turn → Driven
counted driven (Moved s) = record driven { moved = driven.moved + 1 }
counted driven Held = record driven { held = driven.held + 1 }
counted driven (Behind q s) = record driven { behind = driven.behind + 1 }
counted driven (Ended s) = record driven { ended = driven.ended + 1 }

-- turns, and then later ones
abbrev pub added : (one later : Driven) → Driven
added one later = record {
  moved = one.moved + later.moved;
  held = one.held + later.held;
  behind = one.behind + later.behind;
  ended = one.ended + later.ended;
  all = later.all;
}

-- how many turns
abbrev pub turns_of : Driven → ℕ
turns_of driven = driven.moved + driven.held + driven.behind + driven.ended

-- region r was found at a step below goal while another one stood a step lower
pub record IsShort (terms : Terms) (old new : View) (goal r : ℕ) : Type 0 where
  pub q : ℕ
  pub s : ℕ
  pub there : q < region_count terms.setup.now.chart.cut
  pub below : s + 1 < goal
  pub own : (slice_index old.seen r ≤ s + 1) × (s + 1 ≤ slice_index new.seen r)
  pub other : (slice_index old.seen q ≤ s) × (s ≤ slice_index new.seen q)

-- some turns, and how many came to each answer
pub record IsCounted (terms : Terms) (old new : View) (goal : ℕ) (driven : Driven) : Type 0 where
  pub keeps : IsWithin old new goal
  pub tried : tries_of new ≡ tries_of old + turns_of driven
  pub moved : length new.log ≡ length old.log + driven.moved
  pub held : sum new.held_found ≡ sum old.held_found + driven.held
  pub behind : new.short_found ≡ old.short_found + driven.behind
  pub ended : driven.ended ≢ 0 → (r : ℕ) × (r < region_count terms.setup.now.chart.cut) × (goal ≤ slice_index new.seen r)
  pub short : driven.behind ≢ 0 → (r : ℕ) × (r < region_count terms.setup.now.chart.cut) × IsShort terms old new goal r
  pub never_held : old.share ≡ terms.seats → driven.held ≡ 0
  pub risen : driven.moved ≢ 0 → (r : ℕ) × (r < region_count terms.setup.now.chart.cut) × (slice_index old.seen r < goal) × (slice_index old.seen r < slice_index new.seen r)

-- at most so many turns, and where `all` is true all regions were seen at goal or past it, each by a turn
pub record HasWorked (terms : Terms) (old new : View) (goal most : ℕ) (driven : Driven) : Type 0 where
  pub counted : IsCounted terms old new goal driven
  pub within : turns_of driven ≤ most
  pub all : IsTrue driven.all → (region_count terms.setup.now.chart.cut ≤ driven.ended) × AllReach (region_count terms.setup.now.chart.cut) goal new

-- one turn on each region from one number to below another
pub record HasTurned (terms : Terms) (old new : View) (from to goal : ℕ) (driven : Driven) : Type 0 where
  pub counted : IsCounted terms old new goal driven
  pub turns : from + turns_of driven ≡ to
  pub tried : (r : ℕ) → from ≤ r → r < to → tries_at new r ≡ tries_at old r + 1
  pub others : (r : ℕ) → (r < from) ⊎ (to ≤ r) → tries_at new r ≡ tries_at old r
  pub each : (r : ℕ) → from ≤ r → r < to →
      (goal ≤ slice_index new.seen r) ⊎ ((driven.moved + driven.held ≢ 0) ⊎ ((driven.behind ≢ 0) × IsShort terms old new goal r))

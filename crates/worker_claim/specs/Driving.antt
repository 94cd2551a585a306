-- What comes of sweeps over the regions of a field. A sweep is one turn on each region.
use Rattle.std.specs.Prelude.{◌≡◌, ◌≢◌, ◌↔◌, ℕ, zero, suc, Bool, ◌+◌, ◌-◌, ◌*◌, ◌<◌, ◌≤◌, IsTrue, false, List, [], ◌++◌, length, slice_index}
use Rattle.std.specs.List.{range_with_len, sum, sum_by}
use Rattle.border_rows.specs.declared.view.View.{View}
use Rattle.region_slots.specs.Turning.{IsWithin}
use Rattle.worker_claim.specs.declared.driven.Driven.{Driven}

-- how often a pass has found region r taken or looked at its step
abbrev pub tries_at : View → (r : ℕ) → ℕ
tries_at view r = slice_index view.held_found r + slice_index view.looks r

-- and how often in all
abbrev pub tries_of : View → ℕ
tries_of view = sum view.held_found + sum view.looks

-- each of so many regions was seen at goal or past it
abbrev pub AllReach : (count goal : ℕ) → View → Type 0
AllReach count goal view = (r : ℕ) → r < count → goal ≤ slice_index view.seen r

-- so many sweeps over so many regions, and what came of their turns
pub record HasSwept (count goal made : ℕ) (old new : View) (driven : Driven) : Type 0 where
  pub keeps : IsWithin old new goal
  pub tried : (r : ℕ) → r < count → tries_at new r ≡ tries_at old r + made
  pub turns : driven.moved + driven.held + driven.behind + driven.ended ≡ made * count
  pub moved : length new.log ≡ length old.log + driven.moved
  pub held : sum new.held_found ≡ sum old.held_found + driven.held
  pub behind : new.short_found ≡ old.short_found + driven.behind
  pub ended : driven.ended ≢ 0 → (r : ℕ) × (r < count) × (goal ≤ slice_index new.seen r)
  pub all : IsTrue driven.all → (count ≤ driven.ended) × AllReach count goal new
  pub not_all : driven.all ≡ false → driven.moved + driven.held + driven.behind ≡ 0 → driven.ended ≡ 0

-- the regions of a sweep, in order of number from the first on and round
abbrev pub round_from : (count first : ℕ) → List ℕ
round_from count first = range_with_len first (count - first) ++ range_with_len 0 first

-- how many steps below goal a pass has last seen so many regions, in all
abbrev pub steps_left : (count goal : ℕ) → View → ℕ
steps_left count goal view = sum_by (λ r. goal - slice_index view.seen r) (range_with_len 0 count)

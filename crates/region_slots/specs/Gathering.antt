-- The regions that a shot has taken so far: the first ones in order of number, the last of them on top.
use Rattle.std.specs.Prelude.{◌≡◌, ◌≢◌, ℕ, zero, suc, ◌+◌, ◌<◌, ◌≤◌, List, [], ◌∷◌, length, slice_index}
use Rattle.region_cut.specs.Cuttings.{region_count}
use Rattle.region_step.specs.Region.{RegionValue}
use Rattle.region_step.specs.Standing.{Stands}
use Rattle.border_rows.specs.Kinds.{fresh, known_at}
use Rattle.border_rows.specs.declared.view.Hold.{Hold}
use Rattle.border_rows.specs.declared.view.Terms.{Terms}
use Rattle.border_rows.specs.declared.view.View.{View}
use Rattle.region_slots.specs.FieldView.{HasCounts, HasSeenInTime}
use Rattle.region_slots.specs.Plays.{Mine}
use Rattle.region_slots.specs.Shooting.{IsUnmoved}

-- a region's claim word was found taken so many times
pub record HasTried (old new : View) (r tries : ℕ) : Type 0 where
  pub same : new ≡ record old { held_found = new.held_found; tried = new.tried }
  pub long : length new.held_found ≡ length old.held_found
  pub own : slice_index new.held_found r ≡ slice_index old.held_found r + tries
  pub others : (q : ℕ) → q ≢ r → slice_index new.held_found q ≡ slice_index old.held_found q

-- so many regions, each held at the step that was seen of it
abbrev pub held_to : (seen : List ℕ) → (count : ℕ) → List Hold
held_to seen zero = []
held_to seen (suc r) = known_at (fresh r) (slice_index seen r) ∷ held_to seen r

-- and their states
abbrev pub AreCarried : Terms → (seen : List ℕ) → (count : ℕ) → List (ℕ × RegionValue) → Type 0
AreCarried terms seen zero carried = carried ≡ []
AreCarried terms seen (suc r) carried =
    (state : RegionValue) × (others : List (ℕ × RegionValue)) × (carried ≡ (r, state) ∷ others)
    × Stands terms.setup.now r (slice_index seen r) state × AreCarried terms seen r others

-- a seat that holds so many regions, and had this view before
pub record HasGathered (terms : Terms) (old : View) (count : ℕ) (me : Mine) : Type 0 where
  pub unmoved : IsUnmoved old me.0
  pub moments : (me.0.moments ≡ old.moments) × (me.0.moment ≡ old.moment)
  pub counts : HasCounts (region_count terms.setup.now.chart.cut) me.0
  pub in_time : HasSeenInTime terms me.0
  pub holds : me.0.holds ≡ held_to me.0.seen count
  pub carried : AreCarried terms me.0.seen count me.1
  pub looks : (r : ℕ) → r < count → slice_index me.0.looks r ≡ slice_index old.looks r + 1
  pub unlooked : (r : ℕ) → count ≤ r → slice_index me.0.looks r ≡ slice_index old.looks r
  pub untried : (r : ℕ) → count ≤ r → slice_index me.0.held_found r ≡ slice_index old.held_found r

-- and has found the next one taken at each of its tries
pub record HasStopped (terms : Terms) (old : View) (r tries : ℕ) (me : Mine) : Type 0 where
  pub unmoved : IsUnmoved old me.0
  pub moments : (me.0.moments ≡ old.moments) × (me.0.moment ≡ old.moment)
  pub counts : HasCounts (region_count terms.setup.now.chart.cut) me.0
  pub in_time : HasSeenInTime terms me.0
  pub holds : me.0.holds ≡ held_to me.0.seen r
  pub carried : AreCarried terms me.0.seen r me.1
  pub held_found : slice_index me.0.held_found r ≡ slice_index old.held_found r + tries

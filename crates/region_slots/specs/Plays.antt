-- What each atomic step tells the seat that makes it. The step's word says of which region it is.
use Rattle.std.specs.Prelude.{◌≡◌, ◌≢◌, ℕ, ◌+◌, ◌%◌, ◌<◌, ◌≤◌, List, [], ◌∷◌, true, false, length, max, slice_index}
use Rattle.std.specs.List.{Contains}
use Rattle.region_cut.specs.Cuttings.{region_count}
use Rattle.region_cut.specs.Neighbours.{are_neighbours}
use Rattle.region_cut.specs.LawfulSteps.{AreLawful}
use Rattle.region_step.specs.Grid.{grid_held}
use Rattle.region_step.specs.Region.{RegionValue}
use Rattle.region_step.specs.Standing.{Stands}
use Rattle.atomic_table.specs.Table.{Me, Step, rest}
use Rattle.border_rows.specs.Kinds.{cleared, found_at, found_short, found_taken, freed, fresh, gathered, looked, published, taken, wrote}
use Rattle.border_rows.specs.Places.{claim_place, row_place, step_place, width_at, widths_of}
use Rattle.border_rows.specs.Words.{border_cell}
use Rattle.border_rows.specs.declared.view.Hold.{Hold}
use Rattle.border_rows.specs.declared.view.Terms.{Terms}
use Rattle.border_rows.specs.declared.view.View.{View}
use Rattle.region_slots.specs.Shooting.{IsWhole}

-- the view holds each region at the step that it has seen of it, and has not published past it
pub record HoldsAll (terms : Terms) (view : View) : Type 0 where
  pub long : length view.seen ≡ region_count terms.setup.now.chart.cut
  pub each : (r : ℕ) → r < region_count terms.setup.now.chart.cut →
      (hold : Hold) × Contains view.holds hold × (hold.region ≡ r) × (hold.known ≡ true) × (hold.published ≡ false) × (hold.step ≡ slice_index view.seen r)

abbrev pub Mine : Type 0
Mine = Me RegionValue View

-- a region of the field that the view is of
pub record IsRegion (view : View) (terms : Terms) (r : ℕ) : Type 0 where
  pub of_field : view.terms ≡ terms ∷ []
  pub there : r < region_count terms.setup.now.chart.cut

-- region q beside the one that the view holds last, at a step that it knows and has not published past
pub record IsBeside (view : View) (terms : Terms) (q : ℕ) (hold : Hold) : Type 0 where
  pub region : IsRegion view terms q
  pub later : List Hold
  pub holds : view.holds ≡ hold ∷ later
  pub known : hold.known ≡ true
  pub early : hold.published ≡ false
  pub near : are_neighbours terms.setup.now.net.connectors terms.setup.now.chart.cut hold.region q ≡ true

-- a try of a region's claim word: the region is the seat's where the word was 0; else it was 1, which the whole share
-- never finds
pub record Claimed (step : Step RegionValue) (old : Mine) (found : ℕ) (new : Mine) : Type 0 where
  pub free : (terms : Terms) (r : ℕ) → IsRegion old.0 terms r → step.word ≡ claim_place (widths_of terms.setup.now.chart) r → found ≡ 0 → new ≡ (taken old.0 r, old.1)
  pub held : (terms : Terms) (r : ℕ) → IsRegion old.0 terms r → step.word ≡ claim_place (widths_of terms.setup.now.chart) r → found ≢ 0 →
      (new ≡ (found_taken old.0 r, old.1)) × (found ≡ 1)
  pub others : (terms : Terms) (r : ℕ) → IsRegion old.0 terms r → step.word ≡ claim_place (widths_of terms.setup.now.chart) r → (hold : Hold) → Contains old.0.holds hold → hold.region ≢ r
  pub whole : (terms : Terms) (r : ℕ) → IsRegion old.0 terms r → step.word ≡ claim_place (widths_of terms.setup.now.chart) r → old.0.share ≡ terms.seats → found ≡ 0
  pub long : (terms : Terms) (r : ℕ) → IsRegion old.0 terms r → length old.0.seen ≡ region_count terms.setup.now.chart.cut
  pub in_time : (terms : Terms) (r : ℕ) → IsRegion old.0 terms r → slice_index old.0.seen r ≤ terms.setup.now.net.steps

-- a look at a region's step word
pub record Looked (step : Step RegionValue) (old : Mine) (found : ℕ) (new : Mine) : Type 0 where
  pub seen : (terms : Terms) (r : ℕ) → IsRegion old.0 terms r → step.word ≡ step_place (widths_of terms.setup.now.chart) r →
      (new ≡ (looked old.0 r found, old.1)) × (slice_index old.0.seen r ≤ found) × (found ≤ terms.setup.now.net.steps)

-- a look at the step word of the region just taken: its state is the seat's
pub record Learned (step : Step RegionValue) (old : Mine) (found : ℕ) (new : Mine) : Type 0 where
  pub known : (terms : Terms) (r : ℕ) (later : List Hold) → IsRegion old.0 terms r → step.word ≡ step_place (widths_of terms.setup.now.chart) r → old.0.holds ≡ fresh r ∷ later →
      (region : RegionValue) × (new ≡ (found_at old.0 r found, (r, region) ∷ old.1))
      × Stands terms.setup.now r found region
      × (slice_index old.0.seen r ≤ found) × (slice_index terms.setup.now.start.steps r ≤ found) × (found ≤ terms.setup.now.net.steps)

-- a look at the step word of a neighbour of the region held last: it is cleared where it stands at that region's step or
-- past it, and else it stands a step lower
pub record Compared (step : Step RegionValue) (old : Mine) (found : ℕ) (new : Mine) : Type 0 where
  pub near : (terms : Terms) (q : ℕ) (hold : Hold) → IsBeside old.0 terms q hold → step.word ≡ step_place (widths_of terms.setup.now.chart) q → hold.step ≤ found →
      (new ≡ (cleared old.0 q found, old.1)) × (slice_index old.0.seen q ≤ found)
  pub short : (terms : Terms) (q : ℕ) (hold : Hold) → IsBeside old.0 terms q hold → step.word ≡ step_place (widths_of terms.setup.now.chart) q → found < hold.step →
      (new ≡ (found_short old.0 hold.region q found, old.1)) × (slice_index old.0.seen q ≤ found) × (found + 1 ≡ hold.step)

-- a look at a border word of a cleared neighbour: what its cell holds at the region's step
pub record Read (step : Step RegionValue) (old : Mine) (found : ℕ) (new : Mine) : Type 0 where
  pub same : new ≡ old
  pub held : (terms : Terms) (q j : ℕ) (hold : Hold) → IsBeside old.0 terms q hold → Contains hold.cleared q → j < width_at (widths_of terms.setup.now.chart) q →
      step.word ≡ row_place (widths_of terms.setup.now.chart) q (hold.step % 2) j →
      found ≡ grid_held terms.setup.now.net terms.setup.now.chart.cut terms.setup.now.start hold.step (border_cell terms.setup.now.chart q j)

-- a border word is written
pub record Written (step : Step RegionValue) (old : Mine) (found : ℕ) (new : Mine) : Type 0 where
  pub one_more : new ≡ (wrote old.0, old.1)

-- the step to come is published
pub record Published (step : Step RegionValue) (old : Mine) (found : ℕ) (new : Mine) : Type 0 where
  pub risen : (terms : Terms) (r : ℕ) → IsRegion old.0 terms r → step.word ≡ step_place (widths_of terms.setup.now.chart) r → new ≡ (published old.0 r found, old.1)
  pub later : (terms : Terms) (r : ℕ) → IsRegion old.0 terms r → step.word ≡ step_place (widths_of terms.setup.now.chart) r → slice_index old.0.seen r ≤ found

-- the region held last is given back
pub record Freed (step : Step RegionValue) (old : Mine) (found : ℕ) (new : Mine) : Type 0 where
  pub given : new ≡ (freed old.0, rest old.1)
  pub in_time : (terms : Terms) (r : ℕ) → IsRegion old.0 terms r → slice_index old.0.seen r ≤ terms.setup.now.net.steps

-- a look at any word: with the whole share no region was seen past its start and past the reach
pub record Bounded (step : Step RegionValue) (old : Mine) (found : ℕ) (new : Mine) : Type 0 where
  pub same : new ≡ old
  pub whole : (terms : Terms) (r : ℕ) → IsRegion old.0 terms r → old.0.share ≡ terms.seats → slice_index old.0.seen r ≤ max (slice_index terms.setup.now.start.steps r) old.0.reach

-- a look at any word, which only a seat that holds all regions takes: they stand together at the steps that it has seen, and
-- this is one moment more of it
pub record Gathered (step : Step RegionValue) (old : Mine) (found : ℕ) (new : Mine) : Type 0 where
  pub one_more : new ≡ (gathered old.0, old.1)
  pub all : (terms : Terms) (r : ℕ) → IsRegion old.0 terms r → HoldsAll terms old.0
  pub lawful : (terms : Terms) (r : ℕ) → IsRegion old.0 terms r → AreLawful terms.setup.now.net terms.setup.now.chart.cut old.0.seen
  pub started : (terms : Terms) (r : ℕ) → IsRegion old.0 terms r → slice_index terms.setup.now.start.steps r ≤ slice_index old.0.seen r
  pub whole : (terms : Terms) (r : ℕ) → IsRegion old.0 terms r → old.0.share ≡ terms.seats → IsWhole terms old.0 old.0.seen

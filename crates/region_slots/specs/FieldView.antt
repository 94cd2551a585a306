-- What contracts see of a field and of a pass.
use Rattle.std.specs.Prelude.{◌≡◌, ◌≢◌, ℕ, ◌<◌, ◌≤◌, List, [], ◌∷◌, length, slice_index, true, false}
use Rattle.network_file.specs.Sound.{IsNetwork}
use Rattle.region_cut.specs.Chart.{IsChart, chart_of}
use Rattle.region_cut.specs.Cuttings.{region_count}
use Rattle.region_cut.specs.LawfulSteps.{AreLawful}
use Rattle.region_step.specs.Region.{RegionValue}
use Rattle.region_step.specs.Starting.{Fits}
use Rattle.atomic_table.specs.Seated.{TableId}
use Rattle.atomic_table.specs.declared.shared.Seat.{Seat}
use Rattle.border_rows.specs.Places.{widths_of, words_of}
use Rattle.border_rows.specs.declared.view.Hold.{Hold}
use Rattle.border_rows.specs.declared.view.Terms.{Terms}
use Rattle.border_rows.specs.declared.view.View.{View}

-- a field: what it was opened with, and which table it is
pub record FieldValue : Type 0 where
  pub terms : Terms
  pub table : TableId

-- a pass: what it knows, and of which table it is
pub record PassValue : Type 0 where
  pub knows : View
  pub id : ℕ
  pub table : TableId

-- a table for these terms
pub record IsTableFor (terms : Terms) (table : TableId) : Type 0 where
  pub sound : IsNetwork terms.setup.now.net
  pub charted : terms.setup.now.chart ≡ chart_of terms.setup.now.net terms.setup.now.chart.cut
  pub chart : IsChart terms.setup.now.chart
  pub words : table.words ≡ words_of (widths_of terms.setup.now.chart)
  pub fits : Fits terms.setup.now.net terms.setup.now.chart.cut terms.setup.now.start
  pub lawful : AreLawful terms.setup.now.net terms.setup.now.chart.cut terms.setup.now.start.steps

-- between calls a pass has a share, and holds nothing
pub record IsIdle (view : View) (carried : List (ℕ × RegionValue)) : Type 0 where
  pub share : view.share ≢ 0
  pub holds : view.holds ≡ []
  pub nothing : carried ≡ []

-- a view that keeps what it has seen and found of each of so many regions
pub record HasCounts (count : ℕ) (view : View) : Type 0 where
  pub seen : length view.seen ≡ count
  pub held_found : length view.held_found ≡ count
  pub looks : length view.looks ≡ count
  pub takes : length view.takes ≡ count

-- what a view has seen of the regions of a field lies within its steps
abbrev pub HasSeenInTime : Terms → View → Type 0
HasSeenInTime terms view = (r : ℕ) → r < region_count terms.setup.now.chart.cut → slice_index view.seen r ≤ terms.setup.now.net.steps

-- the pass is one of the field's
pub record IsPassOf (field : FieldValue) (pass : PassValue) : Type 0 where
  pub table : pass.table ≡ field.table
  pub terms : pass.knows.terms ≡ field.terms ∷ []
  pub counts : HasCounts (region_count field.terms.setup.now.chart.cut) pass.knows
  pub in_time : HasSeenInTime field.terms pass.knows

-- a seat of the field that isn't spent
pub record IsSeatOf (field : FieldValue) (seat : Seat RegionValue View) : Type 0 where
  pub table : seat.table_id ≡ field.table
  pub terms : seat.me.0.terms ≡ field.terms ∷ []
  pub share : seat.me.0.share ≢ 0

-- the region that a view holds last, at a step that it knows and has not published past
pub record IsWorkingAt (view : View) (hold : Hold) : Type 0 where
  pub later : List Hold
  pub holds : view.holds ≡ hold ∷ later
  pub known : hold.known ≡ true
  pub early : hold.published ≡ false

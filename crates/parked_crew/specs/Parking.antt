-- What a parked crew leaves of its passes.
use Rattle.std.specs.Prelude.{◌≡◌, ℕ, ◌<◌, ◌≤◌, All, List, length, slice_index, slice_index_or}
use Rattle.region_cut.specs.Cuttings.{region_count}
use Rattle.border_rows.specs.declared.view.View.{View}
use Rattle.region_slots.specs.FieldView.{FieldValue, IsPassOf, PassValue}
use Rattle.region_slots.specs.Turning.{IsWithin}

-- passes of one field
abbrev pub ArePassesOf : FieldValue → List PassValue → Type 0
ArePassesOf field passes = All (IsPassOf field) passes

-- each of so many regions was seen at goal or past it
abbrev pub HasSeenAll : (count goal : ℕ) → View → Type 0
HasSeenAll count goal view = (r : ℕ) → r < count → goal ≤ slice_index view.seen r

-- a pass with which a member worked until all regions were at goal or past it: it has its share, and has published nothing
-- past goal
pub record IsBrought (field : FieldValue) (goal : ℕ) (old new : PassValue) : Type 0 where
  pub belongs : IsPassOf field new
  pub same : new.id ≡ old.id
  pub keeps : IsWithin old.knows new.knows goal
  pub seen : HasSeenAll (region_count field.terms.setup.now.chart.cut) goal new.knows

-- and so each pass of a crew
pub record AreBrought (field : FieldValue) (goal : ℕ) (old new : List PassValue) : Type 0 where
  pub one_each : length new ≡ length old
  pub each : (k : ℕ) (d : PassValue) → k < length old → IsBrought field goal (slice_index_or old k d) (slice_index_or new k d)

-- The rule of the field: what holds of its words, of the regions at home and of the seats' views between any two atomic
-- steps. It has four parts.
use Rattle.std.specs.Prelude.{◌≡◌, ◌≢◌, ◌⊎◌, ℕ, ◌+◌, ◌-◌, ◌<◌, ◌≤◌, ◌&&◌, nat_lt, nat_le, true, List, [], ◌∷◌, length, slice_index, sum_by, if◌then◌else◌}
use Rattle.std.specs.List.{Contains, range_with_len}
use mathlib.Core.Option.{some}
use mathlib.Core.Option as maybe
use lib.ListN.{get_elem?}
use Rattle.network_file.specs.Network.{Network}
use Rattle.region_cut.specs.Chart.{ChartLists}
use Rattle.region_cut.specs.Cuttings.{region_count}
use Rattle.region_cut.specs.Neighbours.{are_neighbours}
use Rattle.region_cut.specs.LawfulSteps.{AreLawful}
use Rattle.region_step.specs.Grid.{grid_held}
use Rattle.region_step.specs.Region.{RegionValue}
use Rattle.region_step.specs.Setup.{SetupValue}
use Rattle.region_step.specs.Standing.{Stands}
use Rattle.region_step.specs.Start.{StartLists}
use Rattle.atomic_table.specs.Table.{State}
use Rattle.border_rows.specs.Places.{width_at, widths_of, words_of}
use Rattle.border_rows.specs.Views.{IsHeld, holders, knowers, times_in}
use Rattle.border_rows.specs.Words.{border_cell, border_word, claim_of, step_of, steps_of}
use Rattle.border_rows.specs.declared.view.Hold.{Hold}
use Rattle.border_rows.specs.declared.view.Terms.{Terms}
use Rattle.border_rows.specs.declared.view.View.{View}

-- the slot of region r has this region
abbrev pub IsHome : List (maybe.Option RegionValue) → (r : ℕ) → RegionValue → Type 0
IsHome homes r region = get_elem? homes r ≡ some (some region)

abbrev pub FieldState : Type 0
FieldState = State RegionValue View

-- Claims. The claim word of a region says how many views hold it, one at most. A region of which no view knows the step
-- is at home, as the start's region at the step that it has published.
pub record Claims (setup : SetupValue) (field : FieldState) : Type 0 where
  pub words : length field.words ≡ words_of (widths_of setup.chart)
  pub homes : length field.homes ≡ region_count setup.chart.cut
  pub counted : (r : ℕ) → r < region_count setup.chart.cut → claim_of setup.chart field.words r ≡ holders field.views r
  pub one : (r : ℕ) → holders field.views r ≤ 1
  pub there : (view : View) (hold : Hold) → IsHeld field.views view hold → hold.region < region_count setup.chart.cut
  pub at_home : (r : ℕ) → r < region_count setup.chart.cut → knowers field.views r ≡ 0 →
      (region : RegionValue) × IsHome field.homes r region × Stands setup r (step_of setup.chart field.words r) region

-- Steps. They are lawful, and none is before the start's. A view that knows a region's step knows what the region has
-- published, and the neighbours that it has cleared stand at that step or past it.
pub record Steps (net : Network) (chart : ChartLists) (start : StartLists) (field : FieldState) : Type 0 where
  pub lawful : AreLawful net chart.cut (steps_of chart field.words)
  pub started : (r : ℕ) → r < region_count chart.cut → slice_index start.steps r ≤ step_of chart field.words r
  pub known : (view : View) (hold : Hold) → IsHeld field.views view hold → hold.known ≡ true →
      step_of chart field.words hold.region ≡ (if hold.published then hold.step + 1 else hold.step)
  pub around : (view : View) (hold : Hold) (q : ℕ) → IsHeld field.views view hold → hold.known ≡ true → Contains hold.cleared q →
      are_neighbours net.connectors chart.cut hold.region q ≡ true
  pub cleared : (view : View) (hold : Hold) (q : ℕ) → IsHeld field.views view hold → hold.known ≡ true → Contains hold.cleared q →
      hold.step ≤ step_of chart field.words q

-- Rows. A region's row of a step holds what its border cells hold at that step: for the step that it has published, and
-- for the step before as long as a neighbour stands there. A view writes the words of the step to come once all neighbours
-- are cleared, and publishes it when they are whole.
pub record Rows (net : Network) (chart : ChartLists) (start : StartLists) (field : FieldState) : Type 0 where
  pub now : (r j : ℕ) → r < region_count chart.cut → j < width_at (widths_of chart) r →
      border_word chart field.words r (step_of chart field.words r) j ≡ grid_held net chart.cut start (step_of chart field.words r) (border_cell chart r j)
  pub before : (r q t j : ℕ) → are_neighbours net.connectors chart.cut r q ≡ true → step_of chart field.words q ≡ t → step_of chart field.words r ≡ t + 1 →
      j < width_at (widths_of chart) r → border_word chart field.words r t j ≡ grid_held net chart.cut start t (border_cell chart r j)
  pub few : (view : View) (hold : Hold) → IsHeld field.views view hold → hold.known ≡ true → hold.written ≤ width_at (widths_of chart) hold.region
  pub written : (view : View) (hold : Hold) (j : ℕ) → IsHeld field.views view hold → hold.known ≡ true → j < hold.written →
      border_word chart field.words hold.region (hold.step + 1) j ≡ grid_held net chart.cut start (hold.step + 1) (border_cell chart hold.region j)
  pub clear : (view : View) (hold : Hold) (q : ℕ) → IsHeld field.views view hold → hold.known ≡ true → (hold.written ≢ 0) ⊎ (hold.published ≡ true) →
      are_neighbours net.connectors chart.cut hold.region q ≡ true → Contains hold.cleared q
  pub whole : (view : View) (hold : Hold) → IsHeld field.views view hold → hold.known ≡ true → hold.published ≡ true → hold.written ≡ width_at (widths_of chart) hold.region

-- how many steps all regions have made since their start
abbrev pub steps_made : ChartLists → StartLists → (words : List ℕ) → ℕ
steps_made chart start words = sum_by (λ r. step_of chart words r - slice_index start.steps r) (range_with_len 0 (region_count chart.cut))

-- once for each step s that region r has made since its start, and else not at all
abbrev pub times_made : ChartLists → StartLists → (words : List ℕ) → (r s : ℕ) → ℕ
times_made chart start words r s =
    if nat_lt r (region_count chart.cut) && (nat_lt (slice_index start.steps r) s && nat_le s (step_of chart words r)) then 1 else 0

-- a view whose seat is spent holds nothing and has seen nothing
pub record IsSpent (view : View) : Type 0 where
  pub holds : view.holds ≡ []
  pub seen : (r : ℕ) → slice_index view.seen r ≡ 0
  pub log : view.log ≡ []
  pub reach : view.reach ≡ 0

-- Counts. No view has seen more of a region than it has published. The shares are the field's seats. The logs of
-- all views have each step that was made once, and nothing else. No region stands past its start and past each view's reach.
pub record Counts (terms : Terms) (chart : ChartLists) (start : StartLists) (seats : ℕ) (field : FieldState) : Type 0 where
  pub lengths : (view : View) → Contains field.views view → view.share ≢ 0 → length view.seen ≡ region_count chart.cut
  pub seen : (view : View) (r : ℕ) → Contains field.views view → r < region_count chart.cut → slice_index view.seen r ≤ step_of chart field.words r
  pub shares : sum_by (λ view. view.share) field.views ≡ seats
  pub spent : (view : View) → Contains field.views view → view.share ≡ 0 → IsSpent view
  pub moves : sum_by (λ view. length view.log) field.views ≡ steps_made chart start field.words
  pub logged : (r s : ℕ) → sum_by (λ view. times_in view.log r s) field.views ≡ times_made chart start field.words r s
  pub reach : (r : ℕ) → r < region_count chart.cut → (step_of chart field.words r ≤ slice_index start.steps r) ⊎
      ((view : View) × Contains field.views view × (step_of chart field.words r ≤ view.reach))
  pub alike : (view : View) → Contains field.views view → view.share ≢ 0 → view.terms ≡ terms ∷ []

-- the rule
pub record IsStanding (terms : Terms) (field : FieldState) : Type 0 where
  pub claims : Claims terms.setup.now field
  pub steps : Steps terms.setup.now.net terms.setup.now.chart terms.setup.now.start field
  pub rows : Rows terms.setup.now.net terms.setup.now.chart terms.setup.now.start field
  pub counts : Counts terms terms.setup.now.chart terms.setup.now.start terms.seats field

-- A step keeps each part of the rule that speaks of nothing that it changes.
use Rattle.std.specs.Prelude.{slice_index, if◌then◌else◌}
use Rattle.std.specs.List.{Contains}
use Rattle.std.proofs.Common.{◌≡◌, ◌≢◌, ◌⊎◌, ℕ, ◌+◌, ◌<◌, ◌≤◌, true, List, sym, subst, ◌∙◌, arith}
use Rattle.network_file.specs.Network.{Network}
use Rattle.region_cut.specs.Chart.{ChartLists}
use Rattle.region_cut.specs.Cuttings.{region_count}
use Rattle.region_cut.specs.Neighbours.{are_neighbours}
use Rattle.region_cut.specs.LawfulSteps.{AreLawful}
use Rattle.region_cut.proofs.Meetings.{neighbours-by, touches_region-cell}
use Rattle.region_cut.proofs.Membership.{region_at-there}
use Rattle.region_step.specs.Grid.{grid_held}
use Rattle.region_step.specs.Start.{StartLists}
use Rattle.region_step.proofs.Lists.{map_range_same}
use Rattle.border_rows.specs.Places.{width_at, widths_of}
use Rattle.border_rows.specs.Standing.{Claims, Counts, FieldState, IsStanding, Rows, Steps}
use Rattle.border_rows.specs.Views.{IsHeld}
use Rattle.border_rows.specs.Words.{border_cell, border_word, step_of, steps_of}
use Rattle.border_rows.specs.declared.view.Hold.{Hold}
use Rattle.border_rows.specs.declared.view.Terms.{Terms}
use Rattle.border_rows.specs.declared.view.View.{View}

-- neighbours are regions that are there
pub neighbours-there : (net : Network) (chart : ChartLists) (r q : ℕ) → are_neighbours net.connectors chart.cut r q ≡ true → (r < region_count chart.cut) × (q < region_count chart.cut)
neighbours-there net chart r q near =
    let met = neighbours-by net.connectors chart.cut r q near in
    let first = touches_region-cell chart.cut r met.connector met.first in
    let second = touches_region-cell chart.cut q met.connector met.second in
    (rw first.2 at (region_at-there chart.cut first.0), rw second.2 at (region_at-there chart.cut second.0))

-- a hold whose step is known stood there before
abbrev pub OldHolds : (before after : List View) → Type 0
OldHolds before after = (view : View) (hold : Hold) → IsHeld after view hold → hold.known ≡ true → (old : View) × IsHeld before old hold

-- the regions have published the same steps
abbrev pub SameSteps : ChartLists → (before after : List ℕ) → Type 0
SameSteps chart before after = (r : ℕ) → r < region_count chart.cut → step_of chart after r ≡ step_of chart before r

-- their rows have the same words
abbrev pub SameRows : ChartLists → (before after : List ℕ) → Type 0
SameRows chart before after = (r t j : ℕ) → r < region_count chart.cut → j < width_at (widths_of chart) r → border_word chart after r t j ≡ border_word chart before r t j

pub steps_of-same : (chart : ChartLists) (before after : List ℕ) → SameSteps chart before after → steps_of chart after ≡ steps_of chart before
steps_of-same chart before after same = map_range_same (step_of chart after) (step_of chart before) (region_count chart.cut) same

-- what the rule says of a hold whose step is known
pub record IsRight (net : Network) (chart : ChartLists) (start : StartLists) (words : List ℕ) (hold : Hold) : Type 0 where
  pub known : step_of chart words hold.region ≡ (if hold.published then hold.step + 1 else hold.step)
  pub around : (q : ℕ) → Contains hold.cleared q → are_neighbours net.connectors chart.cut hold.region q ≡ true
  pub cleared : (q : ℕ) → Contains hold.cleared q → hold.step ≤ step_of chart words q
  pub few : hold.written ≤ width_at (widths_of chart) hold.region
  pub written : (j : ℕ) → j < hold.written →
      border_word chart words hold.region (hold.step + 1) j ≡ grid_held net chart.cut start (hold.step + 1) (border_cell chart hold.region j)
  pub clear : (q : ℕ) → (hold.written ≢ 0) ⊎ (hold.published ≡ true) → are_neighbours net.connectors chart.cut hold.region q ≡ true → Contains hold.cleared q
  pub whole : hold.published ≡ true → hold.written ≡ width_at (widths_of chart) hold.region

-- each of the views' holds whose step is known is right
abbrev pub AreRight : Network → ChartLists → StartLists → (words : List ℕ) → (views : List View) → Type 0
AreRight net chart start words views = (view : View) (hold : Hold) → IsHeld views view hold → hold.known ≡ true → IsRight net chart start words hold

-- the rule says so of each hold
pub all_right : (net : Network) (chart : ChartLists) (start : StartLists) (s : FieldState) → Steps net chart start s → Rows net chart start s → AreRight net chart start s.words s.views
all_right net chart start s steps rows view hold held knows = record {
  known = steps.known view hold held knows;
  around = λ q has. steps.around view hold q held knows has;
  cleared = λ q has. steps.cleared view hold q held knows has;
  few = rows.few view hold held knows;
  written = λ j done. rows.written view hold j held knows done;
  clear = λ q begun near. rows.clear view hold q held knows begun near;
  whole = λ done. rows.whole view hold held knows done;
}

-- a hold stays right where its region stands as before, none falls back, and the words that it has written stay
pub right-stays : (net : Network) (chart : ChartLists) (start : StartLists) (before after : List ℕ) (hold : Hold) → step_of chart after hold.region ≡ step_of chart before hold.region →
    ((q : ℕ) → q < region_count chart.cut → step_of chart before q ≤ step_of chart after q) →
    ((j : ℕ) → j < hold.written → border_word chart after hold.region (hold.step + 1) j ≡ border_word chart before hold.region (hold.step + 1) j) →
    IsRight net chart start before hold → IsRight net chart start after hold
right-stays net chart start before after hold same rises words is = record {
  known = same ∙ is.known;
  around = is.around;
  cleared = λ q has. omega (arith, is.cleared q has, rises q ((neighbours-there net chart hold.region q (is.around q has)).1));
  few = is.few;
  written = λ j done. words j done ∙ is.written j done;
  clear = is.clear;
  whole = is.whole;
}

-- the steps are right where they are lawful, none is before its start, and all holds are right
pub steps-right : (net : Network) (chart : ChartLists) (start : StartLists) (s : FieldState) → AreLawful net chart.cut (steps_of chart s.words) →
    ((r : ℕ) → r < region_count chart.cut → slice_index start.steps r ≤ step_of chart s.words r) → AreRight net chart start s.words s.views → Steps net chart start s
steps-right net chart start s lawful started right = record {
  lawful = lawful;
  started = started;
  known = λ view hold held knows. (right view hold held knows).known;
  around = λ view hold q held knows has. (right view hold held knows).around q has;
  cleared = λ view hold q held knows has. (right view hold held knows).cleared q has;
}

-- what the rule says of the words of the rows alone
pub record AreRows (net : Network) (chart : ChartLists) (start : StartLists) (words : List ℕ) : Type 0 where
  pub now : (r j : ℕ) → r < region_count chart.cut → j < width_at (widths_of chart) r →
      border_word chart words r (step_of chart words r) j ≡ grid_held net chart.cut start (step_of chart words r) (border_cell chart r j)
  pub before : (r q t j : ℕ) → are_neighbours net.connectors chart.cut r q ≡ true → step_of chart words q ≡ t → step_of chart words r ≡ t + 1 →
      j < width_at (widths_of chart) r → border_word chart words r t j ≡ grid_held net chart.cut start t (border_cell chart r j)

-- the rows are right where the words and all holds are
pub rows-right : (net : Network) (chart : ChartLists) (start : StartLists) (s : FieldState) → AreRows net chart start s.words → AreRight net chart start s.words s.views → Rows net chart start s
rows-right net chart start s rows right = record {
  now = rows.now;
  before = rows.before;
  few = λ view hold held knows. (right view hold held knows).few;
  written = λ view hold j held knows done. (right view hold held knows).written j done;
  clear = λ view hold q held knows begun near. (right view hold held knows).clear q begun near;
  whole = λ view hold held knows done. (right view hold held knows).whole done;
}

-- the words of before
pub old-rows : (net : Network) (chart : ChartLists) (start : StartLists) (s : FieldState) → Rows net chart start s → AreRows net chart start s.words
old-rows net chart start s rows = record { now = rows.now; before = rows.before }

-- a step that leaves the steps, the rows and what is known of them keeps the rule where it keeps the claims and the counts
pub standing-kept : (terms : Terms) (s t : FieldState) → IsStanding terms s → SameSteps terms.setup.now.chart s.words t.words → SameRows terms.setup.now.chart s.words t.words → OldHolds s.views t.views →
    Claims terms.setup.now t → Counts terms terms.setup.now.chart terms.setup.now.start terms.seats t → IsStanding terms t
standing-kept terms s t old same rows from claims counts =
    let net : Network = terms.setup.now.net in
    let chart : ChartLists = terms.setup.now.chart in
    let start : StartLists = terms.setup.now.start in
    let right : AreRight net chart start t.words t.views = λ view hold held knows.
    let before = from view hold held knows in
    let was = all_right net chart start s old.steps old.rows before.0 hold before.1 knows in
    let there = claims.there view hold held in
    right-stays net chart start s.words t.words hold (same hold.region there) (λ q inside. omega (arith, same q inside)) (λ j done. rows hold.region (hold.step + 1) j there (omega (arith, done, was.few))) was in
    record {
      claims = claims;
      steps = steps-right net chart start t (subst (AreLawful net chart.cut) (sym (steps_of-same chart s.words t.words same)) old.steps.lawful)
          (λ r within. omega (arith, old.steps.started r within, same r within)) right;
      rows = rows-right net chart start t record {
        now = λ r j within inside.
            rows r (step_of chart t.words r) j within inside ∙
            subst (λ u. border_word chart s.words r u j ≡ grid_held net chart.cut start u (border_cell chart r j)) (sym (same r within)) (old.rows.now r j within inside);
        before = λ r q u j near low high inside.
            let both = neighbours-there net chart r q near in
            rows r u j both.0 inside ∙ old.rows.before r q u j near (sym (same q both.1) ∙ low) (sym (same r both.0) ∙ high) inside;
      } right;
      counts = counts;
    }

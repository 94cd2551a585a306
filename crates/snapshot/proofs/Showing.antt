-- What a room that shows a region says of its cells.
use Rattle.std.specs.Prelude.{slice_index}
use Rattle.std.specs.List.{position_or_len}
use Rattle.std.proofs.Common.{◌≡◌, ◌≢◌, ◌==◌, ℕ, ◌<◌, List, length, ap, subst, sym, ◌∙◌}
use Rattle.std.proofs.lemmas.List.{get_or-map}
use Rattle.std.proofs.lemmas.List.Elements.{Contains-get_or}
use Rattle.network_file.specs.Sound.{IsNetwork}
use Rattle.flow_model.specs.State.{row_at}
use Rattle.region_cut.specs.Chart.{IsChart, chart_of, list_at}
use Rattle.region_cut.specs.Cuttings.{region_at, region_count}
use Rattle.region_cut.proofs.Membership.{place-in}
use Rattle.region_step.specs.Grid.{grid_before, grid_row}
use Rattle.region_step.specs.Laws.{grid_state}
use Rattle.region_step.specs.Region.{RegionValue}
use Rattle.region_step.specs.Setup.{SetupValue}
use Rattle.region_step.specs.Standing.{Stands}
use Rattle.region_step.proofs.GridStates.{grid_state-number, grid_state-step}
use Rattle.region_step.proofs.Ground.{ground}
use Rattle.region_step.proofs.Steps.{row-grid}
use Rattle.snapshot.specs.Rooms.{RoomValue, ShowsRegion, StaysBeside, cell_of}

-- the number and the step of a region that stands
number-is : (setup : SetupValue) (r t : ℕ) (region : RegionValue) → Stands setup r t region → region.state.number ≡ r
number-is setup r t region stands = ap (λ state. state.number) stands.state ∙ grid_state-number setup.net setup.chart setup.start setup.every r t

pub shown-step : (setup : SetupValue) (r t : ℕ) (region : RegionValue) (room : RoomValue) → Stands setup r t region →
    ShowsRegion setup.chart room region → slice_index room.steps r ≡ t
shown-step setup r t region room stands shows =
    ap (slice_index room.steps) (sym (number-is setup r t region stands)) ∙ shows.step ∙ ap (λ state. state.step) stands.state ∙ grid_state-step setup.net setup.chart setup.start setup.every r t

-- the rows of its cells are those to which it comes at its step
pub shown-row : (setup : SetupValue) (r t i : ℕ) (region : RegionValue) (room : RoomValue) → IsNetwork setup.net → setup.chart ≡ chart_of setup.net setup.chart.cut → r < region_count setup.chart.cut →
    Stands setup r t region → ShowsRegion setup.chart room region → i < length setup.net.cells → region_at setup.chart.cut i ≡ r → row_at room.rows i ≡ grid_row setup.net setup.chart.cut setup.start t i
shown-row setup r t i region room sound is within stands shows there own =
    let lists = ground setup.net setup.chart.cut setup.chart r sound is within in
    let cells : List ℕ = list_at setup.chart.cells r in
    let p : ℕ = position_or_len (λ j. j == i) cells in
    let place = place-in cells i lists.apart.rising (lists.has i there own) in
    let shown : row_at room.rows (cell_of setup.chart r p) ≡ row_at region.state.rows p =
    subst (λ q. p < length (list_at setup.chart.cells q) → row_at room.rows (cell_of setup.chart q p) ≡ row_at region.state.rows p) (number-is setup r t region stands) (shows.rows p) place.0 in
    ap (row_at room.rows) (sym place.1) ∙ shown ∙ ap (λ state. row_at state.rows p) stands.state ∙ row-grid setup.net setup.chart setup.start setup.every r t p place.0 ∙ ap (grid_row setup.net setup.chart.cut setup.start t) place.1

-- what a cell held before, by the place of the cell in its region
before-is : (setup : SetupValue) (r t p : ℕ) → p < length (list_at setup.chart.cells r) →
    slice_index (grid_state setup.net setup.chart setup.start setup.every r t).before p ≡ grid_before setup.net setup.chart.cut setup.start t (slice_index (list_at setup.chart.cells r) p)
unfolding grid_state
before-is setup r t p inside = get_or-map (grid_before setup.net setup.chart.cut setup.start t) (list_at setup.chart.cells r) p 0 0 inside

-- and beside them stands what they held a step before
pub shown-before : (setup : SetupValue) (r t i : ℕ) (region : RegionValue) (room : RoomValue) → IsNetwork setup.net → setup.chart ≡ chart_of setup.net setup.chart.cut → r < region_count setup.chart.cut →
    Stands setup r t region → ShowsRegion setup.chart room region → i < length setup.net.cells → region_at setup.chart.cut i ≡ r → slice_index room.earlier i ≡ grid_before setup.net setup.chart.cut setup.start t i
shown-before setup r t i region room sound is within stands shows there own =
    let lists = ground setup.net setup.chart.cut setup.chart r sound is within in
    let cells : List ℕ = list_at setup.chart.cells r in
    let p : ℕ = position_or_len (λ j. j == i) cells in
    let place = place-in cells i lists.apart.rising (lists.has i there own) in
    let shown : slice_index room.earlier (cell_of setup.chart r p) ≡ slice_index region.state.before p =
    subst (λ q. p < length (list_at setup.chart.cells q) → slice_index room.earlier (cell_of setup.chart q p) ≡ slice_index region.state.before p) (number-is setup r t region stands) (shows.earlier p) place.0 in
    ap (slice_index room.earlier) (sym place.1) ∙ shown ∙ ap (λ state. slice_index state.before p) stands.state ∙ before-is setup r t p place.0 ∙ ap (grid_before setup.net setup.chart.cut setup.start t) place.1

-- it goes on showing a region while another is filled in
pub shows-stays : (setup : SetupValue) (r t q : ℕ) (region : RegionValue) (old new : RoomValue) → IsChart setup.chart → r < region_count setup.chart.cut → r ≢ q →
    Stands setup r t region → ShowsRegion setup.chart old region → StaysBeside setup.chart old new q → ShowsRegion setup.chart new region
shows-stays setup r t q region old new charted within other stands shows stays =
    let number : region.state.number ≡ r = number-is setup r t region stands in
    let facts = charted.regions r within in
    let away : (p : ℕ) → p < length (list_at setup.chart.cells region.state.number) → region_at setup.chart.cut (cell_of setup.chart region.state.number p) ≢ q =
    λ p inside same.
    let own = facts.own (cell_of setup.chart r p) (Contains-get_or (list_at setup.chart.cells r) p 0 (subst (λ n. p < length (list_at setup.chart.cells n)) number inside)) in
    other (sym own.1 ∙ ap (λ n. region_at setup.chart.cut (cell_of setup.chart n p)) (sym number) ∙ same) in
    record {
      step = stays.steps region.state.number (λ same. other (sym number ∙ same)) ∙ shows.step;
      rows = λ p inside. stays.rows (cell_of setup.chart region.state.number p) (away p inside) ∙ shows.rows p inside;
      earlier = λ p inside. stays.earlier (cell_of setup.chart region.state.number p) (away p inside) ∙ shows.earlier p inside;
    }

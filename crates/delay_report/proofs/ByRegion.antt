-- What is found of a cell at its place in its region, at the last step.
use Rattle.std.specs.Prelude.{flat_map, slice_index, slice_index_or, sum_by}
use Rattle.std.proofs.Common.{◌≡◌, ℕ, ◌<◌, ◌+◌, ◌*◌, ◌≤◌, List, [], ◌∷◌, length, map, take, sym, ap, subst, ◌∙◌, arith}
use Rattle.std.proofs.Math.Nat.{add-mul, mul-le-mul_right}
use Rattle.std.proofs.lemmas.Grind.{get_or_default_zero}
use Rattle.std.proofs.lemmas.List.{get_or-map, length-map, length-take-le}
use Rattle.std.proofs.lemmas.List.Concat.{get_or-flat_map, length-flat_map}
use Rattle.std.proofs.lemmas.List.Sums.{sum_by-cons}
use Rattle.flow_model.specs.Rows.{empty_row}
use Rattle.flow_model.specs.State.{row_at}
use Rattle.flow_model.specs.declared.row.Row.{Row}
use Rattle.region_cut.specs.Chart.{ChartLists, list_at}
use Rattle.region_cut.specs.Cuttings.{region_at}
use Rattle.region_step.specs.Grid.{grid_row}
use Rattle.region_step.specs.Recording.{note_of, recorded}
use Rattle.region_step.specs.Noting.{notes_of}
use Rattle.region_step.specs.Region.{RegionValue}
use Rattle.region_step.specs.Setup.{SetupValue}
use Rattle.region_step.specs.Standing.{Stands}
use Rattle.region_step.specs.declared.note.Note.{Note}
use Rattle.region_step.proofs.GridStates.{grid_state-rows}
use Rattle.region_step.proofs.Steps.{row-grid}
use Rattle.delay_report.specs.FromStart.{IsRecordedFromZero, grid_note}
use Rattle.delay_report.specs.Places.{AreCellPlaces, IsCellPlace, note_at}
use Rattle.delay_report.specs.Report.{recorded_count}
use Rattle.delay_report.proofs.LastRegions.{last-trail}

-- where a cell is
pub cell-place : (chart : ChartLists) (cells : ℕ) (places : List ℕ) (i place : ℕ) → AreCellPlaces chart cells places → i < cells → place ≡ slice_index_or places i place → IsCellPlace chart i place
cell-place chart cells places i place placed there read =
    subst (IsCellPlace chart i) (sym (read ∙ get_or_default_zero places i place (omega (arith, there, placed.one_each)))) (placed.each i there)

-- its row
pub row-inside : (setup : SetupValue) (i place : ℕ) (region : RegionValue) → Stands setup (region_at setup.chart.cut i) setup.net.steps region → IsCellPlace setup.chart i place →
    place < length region.state.rows
row-inside setup i place region stands placed =
    let q : ℕ = region_at setup.chart.cut i in
    omega (
      arith,
      placed.inside,
      ap (λ state. length state.rows) stands.state,
      ap length (grid_state-rows setup.net setup.chart setup.start setup.every q setup.net.steps),
      length-map (list_at setup.chart.cells q) (grid_row setup.net setup.chart.cut setup.start setup.net.steps),
    )

pub row-found : (setup : SetupValue) (i place : ℕ) (region : RegionValue) → Stands setup (region_at setup.chart.cut i) setup.net.steps region → IsCellPlace setup.chart i place →
    row_at region.state.rows place ≡ grid_row setup.net setup.chart.cut setup.start setup.net.steps i
row-found setup i place region stands placed =
    ap (λ state. row_at state.rows place) stands.state ∙
    row-grid setup.net setup.chart setup.start setup.every (region_at setup.chart.cut i) setup.net.steps place placed.inside ∙
    ap (grid_row setup.net setup.chart.cut setup.start setup.net.steps) placed.cell

-- the notes of a region's cells, step after step

same_lengths : {X : Type 0} (f : X → ℕ) (n : ℕ) (xs : List X) → ((x : X) → f x ≡ n) → sum_by f xs ≡ length xs * n
same_lengths f n [] same = omega arith
same_lengths f n (x ∷ xs) same =
    let one_more : length (x ∷ xs) ≡ length xs + 1 = omega arith in
    let product : length (x ∷ xs) * n ≡ (length xs + 1) * n = ap (λ k. k * n) one_more in
    let first : f x ≡ n = same x in
    let rest : sum_by f xs ≡ length xs * n = same_lengths f n xs same in
    let sum : sum_by f (x ∷ xs) ≡ f x + sum_by f xs = sum_by-cons f x xs in
    omega (arith, first, rest, sum, product, add-mul (length xs) 1 n)

length-step_notes : (row : ℕ → ℕ → Row) (cells : List ℕ) (t : ℕ) → length (notes_of (map (row t) cells)) ≡ length cells
length-step_notes row cells t = length-map (map (row t) cells) note_of ∙ length-map cells (row t)

-- as many notes as steps and cells
length-notes : (row : ℕ → ℕ → Row) (cells steps : List ℕ) → length (flat_map (λ t. notes_of (map (row t) cells)) steps) ≡ length steps * length cells
length-notes row cells steps =
    length-flat_map (λ t. notes_of (map (row t) cells)) steps ∙ same_lengths (λ t. length (notes_of (map (row t) cells))) (length cells) steps (length-step_notes row cells)

note_at-notes : (row : ℕ → ℕ → Row) (cells steps : List ℕ) (k place : ℕ) → k < length steps → place < length cells →
    note_at (flat_map (λ t. notes_of (map (row t) cells)) steps) (k * length cells + place) ≡ note_of (row (slice_index steps k) (slice_index cells place))
note_at-notes row cells steps k place within inside =
    let d : Note = record { n = 0; gone = 0 } in
    let notes : ℕ → List Note = λ t. notes_of (map (row t) cells) in
    let t : ℕ = slice_index steps k in
    let front : length (flat_map notes (take k steps)) ≡ k * length cells =
    length-notes row cells (take k steps) ∙ ap (λ n. n * length cells) (length-take-le k steps (omega (arith, within))) in
    ap (λ n. slice_index_or (flat_map notes steps) (n + place) d) (sym front) ∙
    get_or-flat_map notes steps k place 0 d within (omega (arith, inside, length-step_notes row cells t)) ∙
    get_or-map note_of (map (row t) cells) place empty_row d (omega (arith, inside, length-map cells (row t))) ∙
    ap note_of (get_or-map (row t) cells place 0 empty_row inside)

-- there is a note at its place
inside-notes : (k steps cells place : ℕ) → k < steps → place < cells → k * cells + place < steps * cells
inside-notes k steps cells place earlier inside =
    let wide : (k + 1) * cells ≤ steps * cells = mul-le-mul_right cells (omega (arith, earlier)) in omega (arith, wide, inside)

pub note-inside : (setup : SetupValue) (k i place : ℕ) (region : RegionValue) → Stands setup (region_at setup.chart.cut i) setup.net.steps region → IsCellPlace setup.chart i place →
    IsRecordedFromZero setup → k < recorded_count setup.net.steps setup.every →
    k * length (list_at setup.chart.cells (region_at setup.chart.cut i)) + place < length region.state.trail
note-inside setup k i place region stands placed from_zero within =
    let q : ℕ = region_at setup.chart.cut i in
    let cells : List ℕ = list_at setup.chart.cells q in
    omega (
      arith,
      inside-notes k (recorded_count setup.net.steps setup.every) (length cells) place within placed.inside,
      ap length (last-trail setup q region stands from_zero),
      length-notes (grid_row setup.net setup.chart.cut setup.start) cells (recorded setup.net.steps setup.every 0 setup.net.steps),
    )

pub note-found : (setup : SetupValue) (k i place : ℕ) (region : RegionValue) → Stands setup (region_at setup.chart.cut i) setup.net.steps region → IsCellPlace setup.chart i place →
    IsRecordedFromZero setup → k < recorded_count setup.net.steps setup.every →
    note_at region.state.trail (k * length (list_at setup.chart.cells (region_at setup.chart.cut i)) + place) ≡
    grid_note setup.net setup.chart.cut setup.start (slice_index (recorded setup.net.steps setup.every 0 setup.net.steps) k) i
note-found setup k i place region stands placed from_zero within =
    let q : ℕ = region_at setup.chart.cut i in
    let cells : List ℕ = list_at setup.chart.cells q in
    let steps : List ℕ = recorded setup.net.steps setup.every 0 setup.net.steps in
    ap (λ trail. note_at trail (k * length cells + place)) (last-trail setup q region stands from_zero) ∙
    note_at-notes (grid_row setup.net setup.chart.cut setup.start) cells steps k place within placed.inside ∙
    ap (grid_note setup.net setup.chart.cut setup.start (slice_index steps k)) placed.cell

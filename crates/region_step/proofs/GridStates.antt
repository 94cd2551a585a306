-- A region of a start at its first step, and a step on.
use Rattle.std.specs.Prelude.{Option, Some, None, flat_map, map, replicate, slice_index, slice_index_or, unwrap_or, if◌then◌else◌}
use Rattle.std.specs.List.{Contains, filter, range_with_len}
use Rattle.std.proofs.Common.{◌≡◌, ◌≢◌, ℕ, zero, suc, add-zero, ◌<◌, ◌≤◌, ◌+◌, ◌-◌, inl, inr, Bool, true, false, List, [], ◌∷◌, ◌++◌, length, refl, sym, ap, ◌∙◌, arith}
use Rattle.std.proofs.lemmas.Bool.{cases_Bool, cases_eq}
use Rattle.std.proofs.lemmas.Grind.{flat_map-append}
use Rattle.std.proofs.lemmas.Simd.{map-map}
use Rattle.std.proofs.lemmas.List.{ext_get_or, get_or-map, get_or_default, length-map, append-nil}
use Rattle.std.proofs.lemmas.List.Elements.{Contains-get_or, filter-append}
use Rattle.std.proofs.lemmas.List.FromFn.{get_or-map-range_with_len, length-map-range_with_len}
use Rattle.std.proofs.Common.{zero-add}
use Rattle.network_file.specs.Connectors.{are_joined}
use Rattle.network_file.specs.Network.{Network}
use Rattle.network_file.specs.Sound.{IsNetwork}
use Rattle.flow_model.specs.Rows.{empty_row, next_row}
use Rattle.flow_model.specs.State.{row_at}
use Rattle.flow_model.specs.Stepping.{rows_after}
use Rattle.flow_model.specs.declared.row.Row.{Row}
use Rattle.flow_model.proofs.Locality.{next_row-local}
use Rattle.region_cut.specs.Chart.{ChartLists, chart_of, list_at}
use Rattle.region_cut.specs.Cuttings.{region_at, region_count}
use Rattle.region_cut.proofs.Meetings.{joined-halo, joined-there}
use Rattle.region_step.specs.Advance.{advanced, known}
use Rattle.region_step.specs.Grid.{grid_before, grid_held, grid_row}
use Rattle.region_step.specs.Laws.{grid_rows, grid_state, grid_trail, with_halo}
use Rattle.region_step.specs.Opened.{halo_cells}
use Rattle.region_step.specs.Recording.{is_recorded, recorded}
use Rattle.region_step.specs.Noting.{notes_of}
use Rattle.region_step.specs.Region.{RegionState}
use Rattle.region_step.specs.Start.{StartLists}
use Rattle.region_step.specs.Starting.{start_of}
use Rattle.region_step.specs.declared.note.Note.{Note}
use Rattle.region_step.proofs.Grids.{grid_before-next, grid_before-start, grid_held-started, grid_row-next, grid_row-start}
use Rattle.region_step.proofs.Ground.{ground}
use Rattle.region_step.proofs.Lists.{map_same}
use Rattle.region_step.proofs.Places.{known-halo, known-own}

-- one number more
range_more : (a n : ℕ) → range_with_len a (n + 1) ≡ range_with_len a n ++ (a + n) ∷ []
range_more a zero = ap (λ b. b ∷ []) (sym (add-zero a))
range_more a (suc n) =
    let end : a + 1 + n ≡ a + suc n = omega arith in
    let more : suc n + 1 ≡ suc (n + 1) = omega arith in
    ap (range_with_len a) more ∙ ap (λ rest. a ∷ rest) (range_more (a + 1) n ∙ ap (λ b. range_with_len (a + 1) n ++ b ∷ []) end)

-- the recorded steps, one step on
recorded-more : (steps every from t : ℕ) → from ≤ t → recorded steps every from (t + 1) ≡ recorded steps every from t ++ (if is_recorded steps every (t + 1) then (t + 1) ∷ [] else [])
recorded-more steps every from t started =
    let count : t + 1 + 1 - from ≡ t + 1 - from + 1 = omega (arith, started) in
    let last : from + (t + 1 - from) ≡ t + 1 = omega (arith, started) in
    ap (λ n. filter (is_recorded steps every) (range_with_len from n)) count ∙
    ap (filter (is_recorded steps every)) (range_more from (t + 1 - from)) ∙
    filter-append (is_recorded steps every) (range_with_len from (t + 1 - from)) ((from + (t + 1 - from)) ∷ []) ∙
    ap (λ b. filter (is_recorded steps every) (range_with_len from (t + 1 - from)) ++ filter (is_recorded steps every) (b ∷ [])) last ∙
    ap (λ rest. filter (is_recorded steps every) (range_with_len from (t + 1 - from)) ++ rest) (one (is_recorded steps every) (t + 1))
  where
    one : (p : ℕ → Bool) (x : ℕ) → filter p (x ∷ []) ≡ (if p x then x ∷ [] else [])
    one p x = elim (cases_Bool (p x)) [ inl yes_p ↦ rw yes_p refl | inr no_p ↦ rw no_p refl ]

recorded-first : (steps every from : ℕ) → recorded steps every from from ≡ (if is_recorded steps every from then from ∷ [] else [])
recorded-first steps every from =
    let count : from + 1 - from ≡ 1 = omega arith in
    ap (λ n. filter (is_recorded steps every) (range_with_len from n)) count ∙ one (is_recorded steps every) from
  where
    one : (p : ℕ → Bool) (x : ℕ) → filter p (x ∷ []) ≡ (if p x then x ∷ [] else [])
    one p x = elim (cases_Bool (p x)) [ inl yes_p ↦ rw yes_p refl | inr no_p ↦ rw no_p refl ]

-- the notes of one step more
noted : (f : ℕ → List Note) (b : Bool) (t : ℕ) → flat_map f (if b then t ∷ [] else []) ≡ (if b then f t else [])
noted f true t = append-nil (f t)
noted f false t = refl

-- at the first step

pub grid_rows-start : (net : Network) (chart : ChartLists) (start : StartLists) (r : ℕ) → IsNetwork net → chart ≡ chart_of net chart.cut → r < region_count chart.cut →
    grid_rows net chart start r (slice_index start.steps r) ≡ map (row_at start.rows) (list_at chart.cells r)
unfolding grid_rows
grid_rows-start net chart start r sound is within =
    let here = ground net chart.cut chart r sound is within in
    map_same (grid_row net chart.cut start (slice_index start.steps r)) (row_at start.rows) (list_at chart.cells r)
    (λ i has. grid_row-start net chart.cut start (slice_index start.steps r) i (omega (arith, ap (slice_index start.steps) ((here.own i has).1))))

pub grid_before-first : (net : Network) (chart : ChartLists) (start : StartLists) (r : ℕ) → IsNetwork net → chart ≡ chart_of net chart.cut → r < region_count chart.cut →
    map (grid_before net chart.cut start (slice_index start.steps r)) (list_at chart.cells r) ≡ map (slice_index start.earlier) (list_at chart.cells r)
grid_before-first net chart start r sound is within =
    let here = ground net chart.cut chart r sound is within in
    map_same (grid_before net chart.cut start (slice_index start.steps r)) (slice_index start.earlier) (list_at chart.cells r)
    (λ i has. grid_before-start net chart.cut start (slice_index start.steps r) i (omega (arith, ap (slice_index start.steps) ((here.own i has).1))))

pub grid_trail-start : (net : Network) (chart : ChartLists) (start : StartLists) (every r : ℕ) → let s = slice_index start.steps r in
    grid_trail net chart start every r s ≡ (if is_recorded net.steps every s then notes_of (grid_rows net chart start r s) else [])
unfolding grid_trail
grid_trail-start net chart start every r =
    let s : ℕ = slice_index start.steps r in
    let f : ℕ → List Note = λ t. notes_of (grid_rows net chart start r t) in
    ap (flat_map f) (recorded-first net.steps every s) ∙ noted f (is_recorded net.steps every s) s

-- a region that is opened so is the start's
pub grid_state-start : (net : Network) (chart : ChartLists) (start : StartLists) (every r : ℕ) (region : RegionState) → IsNetwork net → chart ≡ chart_of net chart.cut → r < region_count chart.cut →
    region.number ≡ r → region.started ≡ slice_index start.steps r → region.every ≡ every → region.step ≡ slice_index start.steps r →
    region.rows ≡ map (row_at start.rows) (list_at chart.cells r) → region.before ≡ map (slice_index start.earlier) (list_at chart.cells r) →
    region.trail ≡ (if is_recorded net.steps every (slice_index start.steps r) then notes_of region.rows else []) →
    region.put ≡ replicate (length (list_at chart.halo r)) None →
    region ≡ grid_state net chart start every r (slice_index start.steps r)
unfolding grid_state
grid_state-start net chart start every r region sound is within number started recorded_at step rows before trail put =
    let is_rows = rows ∙ sym (grid_rows-start net chart start r sound is within) in
    let is_before = before ∙ sym (grid_before-first net chart start r sound is within) in
    let is_trail = trail ∙ ap (λ rs. if is_recorded net.steps every (slice_index start.steps r) then notes_of rs else []) is_rows ∙ sym (grid_trail-start net chart start every r) in
    built region number started recorded_at step is_rows is_before is_trail put
  where
    built : (region : RegionState) {number started every step : ℕ} {rows : List Row} {before : List ℕ} {trail : List Note} {put : List (Option ℕ)} → region.number ≡ number → region.started ≡ started →
        region.every ≡ every → region.step ≡ step → region.rows ≡ rows → region.before ≡ before → region.trail ≡ trail → region.put ≡ put →
        region ≡ record { number = number; started = started; every = every; step = step; rows = rows; before = before; trail = trail; put = put }
    built region e1 e2 e3 e4 e5 e6 e7 e8 = rw (← e1, ← e2, ← e3, ← e4, ← e5, ← e6, ← e7, ← e8) refl

-- a step on

trail-next : (net : Network) (chart : ChartLists) (start : StartLists) (every r t : ℕ) → slice_index start.steps r ≤ t →
    grid_trail net chart start every r (t + 1) ≡
    grid_trail net chart start every r t ++ (if is_recorded net.steps every (t + 1) then notes_of (grid_rows net chart start r (t + 1)) else [])
unfolding grid_trail
trail-next net chart start every r t started =
    let f : ℕ → List Note = λ s. notes_of (grid_rows net chart start r s) in
    let s : ℕ = slice_index start.steps r in
    ap (flat_map f) (recorded-more net.steps every s t started) ∙
    flat_map-append f (recorded net.steps every s t) (if is_recorded net.steps every (t + 1) then (t + 1) ∷ [] else []) ∙
    ap (λ rest. flat_map f (recorded net.steps every s t) ++ rest) (noted f (is_recorded net.steps every (t + 1)) (t + 1))

-- what the region knows of the cells around one of its own is what they hold
known-around : (net : Network) (chart : ChartLists) (start : StartLists) (r t i j : ℕ) → IsNetwork net → chart ≡ chart_of net chart.cut → r < region_count chart.cut →
    slice_index start.steps r ≤ t → Contains (list_at chart.cells r) i → are_joined net.connectors i j ≡ true →
    known (list_at chart.cells r) (halo_cells chart r) (grid_rows net chart start r t) (map (λ h. Some (grid_held net chart.cut start t h)) (halo_cells chart r)) j ≡
    grid_held net chart.cut start t j
unfolding grid_rows
known-around net chart start r t i j sound is within started own joined =
    let here = ground net chart.cut chart r sound is within in
    let cells : List ℕ = list_at chart.cells r in
    let halo : List ℕ = halo_cells chart r in
    let rows : List Row = map (grid_row net chart.cut start t) cells in
    let put : List (Option ℕ) = map (λ h. Some (grid_held net chart.cut start t h)) halo in
    let own_region : region_at chart.cut i ≡ r = (here.own i own).1 in
    let there = (joined-there net i j sound joined).1 in
    elim (cases_eq (region_at chart.cut j) r) [
      | inl inside ↦
          let has = here.has j there inside in
          let stands : slice_index cells has.0 ≡ j = get_or_default cells has.0 0 j has.1 ∙ has.2 in
          let row : row_at rows has.0 ≡ grid_row net chart.cut start t j = get_or-map (grid_row net chart.cut start t) cells has.0 0 empty_row has.1 ∙ ap (grid_row net chart.cut start t) stands in
          ap (known cells halo rows put) (sym stands) ∙ known-own cells halo rows put has.0 here.apart has.1 ∙ ap (λ row. row.n) row ∙
          sym (grid_held-started net chart.cut start t j (omega (arith, started, ap (slice_index start.steps) inside)))
      | inr outside ↦
          let differ : region_at chart.cut j ≢ region_at chart.cut i = λ same. outside (same ∙ own_region) in
          let has = here.meets j there (rw own_region at (joined-halo net.connectors chart.cut i j joined differ)) in
          let stands : slice_index halo has.0 ≡ j = get_or_default halo has.0 0 j has.1 ∙ has.2 in
          let put_there : slice_index_or put has.0 None ≡ Some (grid_held net chart.cut start t (slice_index halo has.0)) = get_or-map (λ h. Some (grid_held net chart.cut start t h)) halo has.0 0 None has.1 in
          ap (known cells halo rows put) (sym stands) ∙ known-halo cells halo rows put has.0 here.apart has.1 ∙ ap (λ n. unwrap_or n 0) put_there ∙ ap (grid_held net chart.cut start t) stands
    ]

rows-next : (net : Network) (chart : ChartLists) (start : StartLists) (r t : ℕ) → IsNetwork net → chart ≡ chart_of net chart.cut → r < region_count chart.cut → slice_index start.steps r ≤ t →
    rows_after net t (known (list_at chart.cells r) (halo_cells chart r) (grid_rows net chart start r t) (map (λ h. Some (grid_held net chart.cut start t h)) (halo_cells chart r)))
    (list_at chart.cells r) (grid_rows net chart start r t) ≡ grid_rows net chart start r (t + 1)
unfolding rows_after grid_rows
rows-next net chart start r t sound is within started =
    let here = ground net chart.cut chart r sound is within in
    let cells : List ℕ = list_at chart.cells r in
    let rows : List Row = map (grid_row net chart.cut start t) cells in
    let n : ℕ → ℕ = known cells (halo_cells chart r) rows (map (λ h. Some (grid_held net chart.cut start t h)) (halo_cells chart r)) in
    let after : ℕ → Row = λ p. next_row net t n (slice_index cells p) (row_at rows p) in
    let long : length (map after (range_with_len 0 (length cells))) ≡ length cells = length-map-range_with_len after 0 (length cells) in
    ext_get_or empty_row (map after (range_with_len 0 (length cells))) (map (grid_row net chart.cut start (t + 1)) cells)
    (long ∙ sym (length-map cells (grid_row net chart.cut start (t + 1))))
    (λ p inside.
    let before : p < length cells = omega (arith, inside, long) in
    let i : ℕ = slice_index cells p in
    let own : Contains cells i = Contains-get_or cells p 0 before in
    let by_then : start_of start chart.cut i ≤ t = omega (arith, started, ap (slice_index start.steps) ((here.own i own).1)) in
    get_or-map-range_with_len after 0 (length cells) p p empty_row before (zero-add p) ∙
    ap (next_row net t n i) (get_or-map (grid_row net chart.cut start t) cells p 0 empty_row before) ∙
    next_row-local net t i n (grid_held net chart.cut start t) (grid_row net chart.cut start t i) (λ j joined. known-around net chart start r t i j sound is within started own joined) ∙
    sym (grid_row-next net chart.cut start t i by_then) ∙
    sym (get_or-map (grid_row net chart.cut start (t + 1)) cells p 0 empty_row before))

before-next : (net : Network) (chart : ChartLists) (start : StartLists) (r t : ℕ) → IsNetwork net → chart ≡ chart_of net chart.cut → r < region_count chart.cut → slice_index start.steps r ≤ t →
    map (λ row. row.n) (grid_rows net chart start r t) ≡ map (grid_before net chart.cut start (t + 1)) (list_at chart.cells r)
unfolding grid_rows
before-next net chart start r t sound is within started =
    let here = ground net chart.cut chart r sound is within in
    map-map (λ row. row.n) (grid_row net chart.cut start t) (list_at chart.cells r) ∙
    map_same (λ i. (grid_row net chart.cut start t i).n) (grid_before net chart.cut start (t + 1)) (list_at chart.cells r)
    (λ i own.
    let by_then : start_of start chart.cut i ≤ t = omega (arith, started, ap (slice_index start.steps) ((here.own i own).1)) in
    sym (grid_before-next net chart.cut start t i ∙ grid_held-started net chart.cut start t i by_then))

-- a region whose halo was told what each cell holds comes to the next step of the start
pub grid_state-next : (net : Network) (chart : ChartLists) (start : StartLists) (every r t : ℕ) → IsNetwork net → chart ≡ chart_of net chart.cut → r < region_count chart.cut →
    slice_index start.steps r ≤ t →
    advanced net chart (with_halo chart (grid_held net chart.cut start t) (grid_state net chart start every r t)) ≡ grid_state net chart start every r (t + 1)
unfolding advanced grid_state
grid_state-next net chart start every r t sound is within started =
    let rows = rows-next net chart start r t sound is within started in
    let before = before-next net chart start r t sound is within started in
    let trail = trail-next net chart start every r t started in
    let put : length (map (λ i. Some (grid_held net chart.cut start t i)) (halo_cells chart r)) ≡ length (list_at chart.halo r) =
    length-map (halo_cells chart r) (λ i. Some (grid_held net chart.cut start t i)) ∙ length-map (list_at chart.halo r) (λ halo. halo.cell) in
    rw (rows, before, put) (rw (← trail) refl)

-- its parts
pub grid_state-number : (net : Network) (chart : ChartLists) (start : StartLists) (every r t : ℕ) → (grid_state net chart start every r t).number ≡ r
unfolding grid_state
grid_state-number net chart start every r t = refl

pub grid_state-step : (net : Network) (chart : ChartLists) (start : StartLists) (every r t : ℕ) → (grid_state net chart start every r t).step ≡ t
unfolding grid_state
grid_state-step net chart start every r t = refl

pub grid_state-rows : (net : Network) (chart : ChartLists) (start : StartLists) (every r t : ℕ) → (grid_state net chart start every r t).rows ≡ map (grid_row net chart.cut start t) (list_at chart.cells r)
unfolding grid_state grid_rows
grid_state-rows net chart start every r t = refl

pub grid_state-put : (net : Network) (chart : ChartLists) (start : StartLists) (every r t : ℕ) → (grid_state net chart start every r t).put ≡ replicate (length (list_at chart.halo r)) None
unfolding grid_state
grid_state-put net chart start every r t = refl

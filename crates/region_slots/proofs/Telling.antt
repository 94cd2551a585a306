-- A region whose halo is told, cell after cell, and then its step, in a field.
use Rattle.std.specs.List.{Contains}
use Rattle.std.specs.Prelude.{Option, Some, None, map, slice_index, slice_index_or, slice_set}
use Rattle.std.proofs.Common.{◌≡◌, ◌≢◌, ℕ, ◌<◌, ◌≤◌, ◌+◌, inl, inr, List, [], ◌∷◌, length, sym, ap, subst, ◌∙◌, true, arith}
use Rattle.std.proofs.lemmas.Bool.{cases_eq, cases_lt}
use Rattle.std.proofs.lemmas.List.{ext_get_or, get_or-map, get_or_default, get_or-set_other, get_or-set_same, length-map, length-set, length-replicate}
use Rattle.std.proofs.lemmas.List.Elements.{Contains-get_or}
use Rattle.network_file.specs.Network.{Network}
use Rattle.network_file.specs.Sound.{IsNetwork}
use Rattle.region_cut.specs.Chart.{ChartLists, chart_of, list_at}
use Rattle.region_cut.specs.Cuttings.{region_at, region_count}
use Rattle.region_cut.specs.Neighbours.{are_neighbours}
use Rattle.region_cut.specs.LawfulSteps.{AreLawful}
use Rattle.region_cut.specs.declared.halo.Halo.{Halo}
use Rattle.region_cut.proofs.ChartParts.{chart-neighbours}
use Rattle.region_cut.proofs.Membership.{Contains-neighbours_of, neighbours_of-Contains}
use Rattle.border_rows.proofs.Keeping.{neighbours-there}
use Rattle.region_cut.proofs.Meetings.{halo-neighbours, neighbours-sym}
use Rattle.region_step.specs.Advance.{HasHaloPut, HasRowsInBounds}
use Rattle.region_step.specs.Grid.{grid_held}
use Rattle.region_step.specs.Laws.{grid_state, with_halo}
use Rattle.region_step.specs.Opened.{IsIn, halo_cells}
use Rattle.region_step.specs.Region.{RegionState, RegionValue}
use Rattle.region_step.specs.Standing.{Stands}
use Rattle.region_step.specs.Start.{StartLists}
use Rattle.region_step.specs.Starting.{Fits, start_of}
use Rattle.region_step.proofs.Grids.{held_in_bounds}
use Rattle.region_step.proofs.GridStates.{grid_state-number, grid_state-put}
use Rattle.region_step.proofs.Ground.{ground}
use Rattle.region_step.proofs.Steps.{grid_state-in_bounds}
use Rattle.flow_model.specs.State.{occupancy}
use Rattle.region_step.proofs.GridStates.{grid_state-step}
use Rattle.region_step.proofs.Steps.{occupancy-grid}
use Rattle.border_rows.specs.Places.{width_at, widths_of}
use Rattle.border_rows.specs.Words.{border_cell}
use Rattle.border_rows.proofs.ChartWidths.{width_at-widths_of}
use Rattle.border_rows.specs.declared.view.Terms.{Terms}
use Rattle.region_slots.specs.FieldView.{IsTableFor}
use Rattle.region_slots.specs.Turning.{IsTold, field_held}
use Rattle.atomic_table.specs.Seated.{TableId}

-- nothing is told yet
pub told-none : (terms : Terms) (r t : ℕ) (region : RegionValue) → Stands terms.setup.now r t region → IsTold terms r t 0 region
told-none terms r t region stands =
    let put : region.state.put ≡ (grid_state terms.setup.now.net terms.setup.now.chart terms.setup.now.start terms.setup.now.every r t).put = ap (λ state. state.put) stands.state in
    record {
      opened = stands.opened;
      state = stands.state ∙ ap (λ p. record (grid_state terms.setup.now.net terms.setup.now.chart terms.setup.now.start terms.setup.now.every r t) { put = p }) (sym put);
      one_each = ap length (put ∙ grid_state-put terms.setup.now.net terms.setup.now.chart terms.setup.now.start terms.setup.now.every r t) ∙ length-replicate {A = Option ℕ} (length (list_at terms.setup.now.chart.halo r)) None ∙
          sym (length-map (list_at terms.setup.now.chart.halo r) (λ halo. halo.cell));
      told = λ k before. absurd (omega (arith, before));
    }

-- one cell more
pub told-more : (terms : Terms) (r t j n : ℕ) (old new : RegionValue) → IsTold terms r t j old → j < length (halo_cells terms.setup.now.chart r) →
    n ≡ field_held terms t (slice_index (halo_cells terms.setup.now.chart r) j) → new.state ≡ record old.state { put = slice_set old.state.put j (Some n) } → IsIn terms.setup.now.net terms.setup.now.chart new →
    IsTold terms r t (j + 1) new
told-more terms r t j n old new told within is state opened =
    let put : new.state.put ≡ slice_set old.state.put j (Some n) = ap (λ s. s.put) state in
    let inside : j < length old.state.put = omega (arith, within, told.one_each) in
    record {
      opened = opened;
      state = state ∙ ap {A = RegionState} (λ s. record s { put = slice_set old.state.put j (Some n) }) told.state ∙
          ap (λ p. record (grid_state terms.setup.now.net terms.setup.now.chart terms.setup.now.start terms.setup.now.every r t) { put = p }) (sym put);
      one_each = ap length put ∙ length-set old.state.put j (Some n) ∙ told.one_each;
      told = λ k before. elim (cases_eq k j) [
        | inl last ↦
            ap (λ p. slice_index_or p k None) put ∙ ap (λ i. slice_index_or (slice_set old.state.put j (Some n)) i None) last ∙
            get_or-set_same old.state.put j (Some n) None inside ∙ ap Some is ∙ ap (λ i. Some (field_held terms t (slice_index (halo_cells terms.setup.now.chart r) i))) (sym last)
        | inr other ↦
            let earlier : k < j = below k j before other in
            ap (λ p. slice_index_or p k None) put ∙ get_or-set_other old.state.put j k (Some n) None other ∙ told.told k earlier
      ];
    }
  where
    below : (k j : ℕ) → k < j + 1 → k ≢ j → k < j
    below k j before other = elim (cases_lt k j) [ inl lower ↦ lower | inr not_lower ↦ absurd (other (omega (arith, before, not_lower))) ]

-- all is told
pub told-all : (terms : Terms) (r t j : ℕ) (region : RegionValue) → IsTold terms r t j region → length (halo_cells terms.setup.now.chart r) ≤ j →
    region.state ≡ with_halo terms.setup.now.chart (field_held terms t) (grid_state terms.setup.now.net terms.setup.now.chart terms.setup.now.start terms.setup.now.every r t)
told-all terms r t j region told all =
    let number = grid_state-number terms.setup.now.net terms.setup.now.chart terms.setup.now.start terms.setup.now.every r t in
    let halo : List ℕ = halo_cells terms.setup.now.chart r in
    let put : region.state.put ≡ map (λ i. Some (field_held terms t i)) halo =
    ext_get_or None region.state.put (map (λ i. Some (field_held terms t i)) halo) (told.one_each ∙ sym (length-map halo (λ i. Some (field_held terms t i))))
    (λ k within.
    let inside : k < length halo = omega (arith, within, told.one_each) in
    told.told k (omega (arith, inside, all)) ∙ sym (get_or-map (λ i. Some (field_held terms t i)) halo k 0 None inside)) in
    told.state ∙ ap (λ p. record (grid_state terms.setup.now.net terms.setup.now.chart terms.setup.now.start terms.setup.now.every r t) { put = p })
    (put ∙ ap (λ q. map (λ i. Some (field_held terms t i)) (halo_cells terms.setup.now.chart q)) (sym number))

-- for its halo occupancies in bounds are put, since the regions around it start no later than one step ahead
halo-in_bounds : (net : Network) (chart : ChartLists) (start : StartLists) (every r t : ℕ) → IsNetwork net → chart ≡ chart_of net chart.cut → r < region_count chart.cut →
    Fits net chart.cut start → AreLawful net chart.cut start.steps → slice_index start.steps r ≤ t → t ≤ net.steps →
    HasHaloPut net chart (with_halo chart (grid_held net chart.cut start t) (grid_state net chart start every r t))
unfolding grid_state
halo-in_bounds net chart start every r t sound is within fits lawful started in_time =
    let here = ground net chart.cut chart r sound is within in
    record {
      each = λ j inside.
          let halo : List ℕ = halo_cells chart r in
          let i : ℕ = slice_index halo j in
          let met = here.met i (Contains-get_or halo j 0 inside) in
          let beside = neighbours-sym net.connectors chart.cut r (region_at chart.cut i) (halo-neighbours net.connectors chart.cut r i met.1) in
          let near : start_of start chart.cut i ≤ t + 1 = omega (arith, lawful.close (region_at chart.cut i) r beside, started) in (
            grid_held net chart.cut start t i,
            get_or-map (λ h. Some (grid_held net chart.cut start t h)) halo j 0 None inside,
            held_in_bounds net chart.cut start t i sound fits met.0 near in_time,
          );
    }

-- and its step can be made
pub can_advance : (terms : Terms) (table : TableId) (r t j : ℕ) (region : RegionValue) → IsTableFor terms table → r < region_count terms.setup.now.chart.cut → t < terms.setup.now.net.steps →
    slice_index terms.setup.now.start.steps r ≤ t →
    IsTold terms r t j region → length (halo_cells terms.setup.now.chart r) ≤ j → HasRowsInBounds terms.setup.now.net terms.setup.now.chart region.state × HasHaloPut terms.setup.now.net terms.setup.now.chart region.state
can_advance terms table r t j region field within before started told all =
    let whole = told-all terms r t j region told all in (
      subst (HasRowsInBounds terms.setup.now.net terms.setup.now.chart) (sym told.state)
          (grid_state-in_bounds terms.setup.now.net terms.setup.now.chart terms.setup.now.start terms.setup.now.every r t region.state.put field.sound field.charted within field.fits started (omega (arith, before))),
      subst (HasHaloPut terms.setup.now.net terms.setup.now.chart) (sym whole)
          (halo-in_bounds terms.setup.now.net terms.setup.now.chart terms.setup.now.start terms.setup.now.every r t field.sound field.charted within field.fits field.lawful started (omega (arith, before))),
    )

-- the step of a region that is told
pub told-step : (terms : Terms) (r t j : ℕ) (region : RegionValue) → IsTold terms r t j region → region.state.step ≡ t
told-step terms r t j region told = ap (λ state. state.step) told.state ∙ grid_state-step terms.setup.now.net terms.setup.now.chart terms.setup.now.start terms.setup.now.every r t

-- a told region that has made its step stands there
pub advanced-stands : (terms : Terms) (net : Network) (chart : ChartLists) (r t j : ℕ) (old new : RegionValue) → net ≡ terms.setup.now.net → chart ≡ terms.setup.now.chart →
    IsTold terms r t j old → length (halo_cells terms.setup.now.chart r) ≤ j → IsIn net chart new →
    (old.state ≡ with_halo chart (grid_held net chart.cut terms.setup.now.start t) (grid_state net chart terms.setup.now.start terms.setup.now.every r t) → new.state ≡ grid_state net chart terms.setup.now.start terms.setup.now.every r (t + 1)) →
    Stands terms.setup.now r (t + 1) new
advanced-stands terms net chart r t j old new same_net same_chart told all opened grid =
    let whole = told-all terms r t j old told all in
    let there : old.state ≡ with_halo chart (grid_held net chart.cut terms.setup.now.start t) (grid_state net chart terms.setup.now.start terms.setup.now.every r t) = rw (same_net, same_chart) whole in
    record {
      opened = rw (same_net, same_chart) at opened;
      state = rw (same_net, same_chart) at (grid there);
    }

-- the slot that was taken last is one
pub same-slot : (carried others later : List (ℕ × RegionValue)) (r : ℕ) (x y : RegionValue) → carried ≡ (r, x) ∷ others → carried ≡ (r, y) ∷ later → x ≡ y
same-slot carried others later r x y first second = ap (λ l. front l) (sym first ∙ second)
  where
    front : List (ℕ × RegionValue) → RegionValue
    front [] = x
    front (slot ∷ slots) = slot.1

-- its number
pub stands-number : (terms : Terms) (r t : ℕ) (region : RegionValue) → Stands terms.setup.now r t region → region.state.number ≡ r
stands-number terms r t region stands = ap (λ state. state.number) stands.state ∙ grid_state-number terms.setup.now.net terms.setup.now.chart terms.setup.now.start terms.setup.now.every r t

-- what its border cells hold
pub border-now : (terms : Terms) (table : TableId) (r t j result : ℕ) (region : RegionValue) → IsTableFor terms table → r < region_count terms.setup.now.chart.cut → slice_index terms.setup.now.start.steps r ≤ t →
    j < length (list_at terms.setup.now.chart.border r) → Stands terms.setup.now r t region →
    ((p : ℕ) → p < length (list_at terms.setup.now.chart.cells region.state.number) → slice_index (list_at terms.setup.now.chart.cells region.state.number) p ≡ slice_index (list_at terms.setup.now.chart.border region.state.number) j →
    result ≡ occupancy region.state.rows p) → result ≡ field_held terms t (border_cell terms.setup.now.chart r j)
border-now terms table r t j result region field within started inside stands told =
    let number = stands-number terms r t region stands in
    let cells : List ℕ = list_at terms.setup.now.chart.cells r in
    let i : ℕ = border_cell terms.setup.now.chart r j in
    let listed : Contains cells i = (field.chart.regions r within).inside i (Contains-get_or (list_at terms.setup.now.chart.border r) j 0 inside) in
    let p : ℕ = listed.0 in
    let here : slice_index cells p ≡ i = get_or_default cells p 0 i listed.1 ∙ listed.2 in
    let there : result ≡ occupancy region.state.rows p = rw number at told p listed.1 here in
    there ∙ ap (λ state. occupancy state.rows p) stands.state ∙
    occupancy-grid terms.setup.now.net terms.setup.now.chart terms.setup.now.start terms.setup.now.every r t p field.sound field.charted within started listed.1 ∙ ap (field_held terms t) here

-- the chart's neighbours are those of the network
pub listed-near : (terms : Terms) (table : TableId) (r q : ℕ) → IsTableFor terms table → r < region_count terms.setup.now.chart.cut → Contains (list_at terms.setup.now.chart.neighbours r) q →
    are_neighbours terms.setup.now.net.connectors terms.setup.now.chart.cut r q ≡ true
listed-near terms table r q field within listed =
    (Contains-neighbours_of terms.setup.now.net terms.setup.now.chart.cut r q (subst (λ list. Contains list q) (chart-neighbours terms.setup.now.net terms.setup.now.chart.cut terms.setup.now.chart r field.charted within) listed)).1

-- a halo cell is a neighbour's border cell
pub halo-beside : (terms : Terms) (table : TableId) (r : ℕ) (other : Halo) → IsTableFor terms table → r < region_count terms.setup.now.chart.cut → Contains (list_at terms.setup.now.chart.halo r) other →
    (are_neighbours terms.setup.now.net.connectors terms.setup.now.chart.cut r other.region ≡ true) × (other.place < width_at (widths_of terms.setup.now.chart) other.region) ×
    (border_cell terms.setup.now.chart other.region other.place ≡ other.cell)
halo-beside terms table r other field within listed =
    let facts = (field.chart.regions r within).met other listed in
    (listed-near terms table r other.region field within facts.0, omega (arith, facts.2, width_at-widths_of terms.setup.now.chart other.region), facts.3)

-- each neighbour stands in the chart's list
pub near-listed : (terms : Terms) (table : TableId) (r q : ℕ) → IsTableFor terms table → r < region_count terms.setup.now.chart.cut → are_neighbours terms.setup.now.net.connectors terms.setup.now.chart.cut r q ≡ true →
    (i : ℕ) × (i < length (list_at terms.setup.now.chart.neighbours r)) × (slice_index (list_at terms.setup.now.chart.neighbours r) i ≡ q)
near-listed terms table r q field within near =
    let there = (neighbours-there terms.setup.now.net terms.setup.now.chart r q near).1 in
    let has : Contains (list_at terms.setup.now.chart.neighbours r) q =
    subst (λ list. Contains list q) (sym (chart-neighbours terms.setup.now.net terms.setup.now.chart.cut terms.setup.now.chart r field.charted within)) (neighbours_of-Contains terms.setup.now.net terms.setup.now.chart.cut r q there near) in
    (has.0, has.1, get_or_default (list_at terms.setup.now.chart.neighbours r) has.0 0 q has.1 ∙ has.2)

-- A field opens.
use Rattle.std.specs.Prelude.{All, slice_index}
use Rattle.std.specs.List.{Contains}
use Rattle.std.proofs.Common.{◌≡◌, ℕ, ◌+◌, ◌<◌, ◌≤◌, ◌%◌, List, length, get_or, refl, sym, ap, ◌∙◌, arith}
use Rattle.std.proofs.lemmas.List.Elements.{Contains-get_or}
use Rattle.network_file.specs.Network.{Network}
use Rattle.network_file.specs.Sound.{IsNetwork}
use Rattle.flow_model.specs.State.{occupancy}
use Rattle.region_cut.specs.Chart.{ChartLists, IsChart, chart_of, list_at}
use Rattle.region_cut.specs.Cuttings.{region_at, region_count}
use Rattle.region_cut.specs.LawfulSteps.{AreLawful}
use Rattle.region_step.specs.Grid.{grid_held}
use Rattle.region_step.specs.Region.{RegionValue}
use Rattle.region_step.specs.Setup.{SetupValue}
use Rattle.region_step.specs.Standing.{AllStand}
use Rattle.region_step.specs.Start.{StartLists}
use Rattle.region_step.specs.Starting.{start_of}
use Rattle.region_step.proofs.Grids.{grid_held-earlier, grid_held-started, grid_row-start}
use Rattle.region_step.proofs.Ground.{ground}
use Rattle.atomic_table.specs.Table.{opening}
use Rattle.border_rows.specs.Places.{row_place, width_at, widths_of}
use Rattle.border_rows.specs.Standing.{IsStanding}
use Rattle.border_rows.specs.Words.{border_cell}
use Rattle.border_rows.specs.declared.view.Terms.{Terms}
use Rattle.border_rows.proofs.ChartWidths.{width_at-widths_of}
use Rattle.border_rows.proofs.SeatKinds.{IsOpening, opening-stands}
use Rattle.region_slots.specs.FirstWords.{AreAllFirstWords}
use Rattle.region_slots.specs.Opening.{first_view}

-- the border cells of a region have rows in any list of one for each cell
pub border-within : {X : Type 0} (net : Network) (chart : ChartLists) (xs : List X) (r : ℕ) → IsNetwork net → chart ≡ chart_of net chart.cut → length xs ≡ length net.cells →
    r < region_count chart.cut → All (λ i. i < length xs) (list_at chart.border r)
border-within net chart xs r sound charted one_each within = λ k d inside.
    let here = ground net chart.cut chart r sound charted within in
    let cell : ℕ = get_or (list_at chart.border r) k d in
    omega (arith, one_each, (here.own cell (here.inside k d inside)).0)

-- a border cell of a region is of that region
border-region : (chart : ChartLists) (r j : ℕ) → IsChart chart → r < region_count chart.cut → j < width_at (widths_of chart) r → region_at chart.cut (border_cell chart r j) ≡ r
border-region chart r j sound within inside =
    let facts = sound.regions r within in
    let has : Contains (list_at chart.border r) (border_cell chart r j) = Contains-get_or (list_at chart.border r) j 0 (omega (arith, inside, width_at-widths_of chart r)) in
    (facts.own (border_cell chart r j) (facts.inside (border_cell chart r j) has)).1

-- what it holds as the region starts
held-first : (net : Network) (cut : List ℕ) (start : StartLists) (i : ℕ) → grid_held net cut start (start_of start cut i) i ≡ occupancy start.rows i
held-first net cut start i =
    grid_held-started net cut start (start_of start cut i) i (omega arith) ∙ ap (λ row. row.n) (grid_row-start net cut start (start_of start cut i) i (omega arith))

-- words that are laid out and regions that stand where they start are those of a field that opens
pub laid-opens : (setup : SetupValue) (words : List ℕ) (regions : List RegionValue) → IsChart setup.chart → AreAllFirstWords setup.chart setup.start words →
    AllStand setup setup.start.steps regions → IsOpening setup words regions
laid-opens setup words regions sound laid stand = record {
  long = laid.long;
  free = laid.free;
  steps = λ r within. (laid.each r within).step;
  now = λ r j within inside.
      let from : start_of setup.start setup.chart.cut (border_cell setup.chart r j) ≡ slice_index setup.start.steps r = ap (slice_index setup.start.steps) (border-region setup.chart r j sound within inside) in
      (laid.each r within).rows.now j inside inside ∙ sym (held-first setup.net setup.chart.cut setup.start (border_cell setup.chart r j)) ∙
      ap (λ t. grid_held setup.net setup.chart.cut setup.start t (border_cell setup.chart r j)) from;
  before = λ r t j within inside next.
      let from : start_of setup.start setup.chart.cut (border_cell setup.chart r j) ≡ slice_index setup.start.steps r = ap (slice_index setup.start.steps) (border-region setup.chart r j sound within inside) in
      let parity : t % 2 ≡ (slice_index setup.start.steps r + 1) % 2 = omega (arith, next) in
      ap (λ p. slice_index words (row_place (widths_of setup.chart) r p j)) parity ∙ (laid.each r within).rows.before j inside inside ∙
      sym (grid_held-earlier setup.net setup.chart.cut setup.start t (border_cell setup.chart r j) (omega (arith, from, next)));
  homes = stand;
}

-- they stand under the rule
pub laid-stands : (terms : Terms) (words : List ℕ) (regions : List RegionValue) → IsChart terms.setup.now.chart → AreLawful terms.setup.now.net terms.setup.now.chart.cut terms.setup.now.start.steps →
    AreAllFirstWords terms.setup.now.chart terms.setup.now.start words → AllStand terms.setup.now terms.setup.now.start.steps regions → 1 ≤ terms.seats →
    IsStanding terms (opening words regions (first_view terms))
laid-stands terms words regions sound lawful laid stand seats =
    opening-stands terms words regions (first_view terms) lawful (laid-opens terms.setup.now words regions sound laid stand)
    record { alike = refl; share = refl; seen = refl; log = refl; reach = refl; holds = refl }
    (λ none. omega (arith, none, seats))

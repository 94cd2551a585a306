-- A start that has the rows of regions which are all at one step.
use Rattle.std.specs.Prelude.{replicate, slice_index, slice_index_or}
use Rattle.std.proofs.Common.{◌≡◌, ℕ, ◌+◌, ◌<◌, ◌≤◌, List, [], ◌∷◌, length, map, refl, sym, ap, subst, ◌∙◌, arith}
use Rattle.std.proofs.lemmas.List.{get_or-replicate, length-replicate}
use Rattle.network_file.specs.Network.{Network}
use Rattle.network_file.specs.Sound.{IsNetwork}
use Rattle.flow_model.specs.Bounds.{IsHeldInBounds, IsRowInBounds}
use Rattle.flow_model.specs.State.{row_at, state_at}
use Rattle.region_cut.specs.Chart.{ChartLists, chart_of, list_at}
use Rattle.region_cut.specs.Cuttings.{region_at, region_count}
use Rattle.region_cut.specs.LawfulSteps.{AreLawful}
use Rattle.region_cut.proofs.Meetings.{neighbours-by, touches_region-cell}
use Rattle.region_cut.proofs.Membership.{region_at-there}
use Rattle.region_step.specs.Grid.{grid_before, grid_held, grid_row}
use Rattle.region_step.specs.Laws.{grid_state}
use Rattle.region_step.specs.Region.{RegionValue}
use Rattle.region_step.specs.Regions.{HaveCome}
use Rattle.region_step.specs.Setup.{SetupValue}
use Rattle.region_step.specs.Standing.{Stands}
use Rattle.region_step.specs.Start.{StartLists}
use Rattle.region_step.specs.Starting.{Fits, IsCellInBounds, IsTrueStart, start_of}
use Rattle.region_step.proofs.GridStates.{grid_state-rows, grid_state-step}
use Rattle.region_step.proofs.Grids.{are_the_recurrences, grid_before-next, grid_before-start, grid_held-started, held_in_bounds, stay_in_bounds}
use Rattle.region_step.proofs.Ground.{ground}
use Rattle.region_step.proofs.Lists.{map_same}
use Rattle.snapshot.specs.Rooms.{RoomValue, ShowsRegion}
use Rattle.snapshot.proofs.Showing.{shown-before, shown-row}
use Rattle.saved_run.specs.EvenStart.{IsEvenStart, IsTrueBelow}

-- a room shows all regions of a chart
abbrev pub AllShown : ChartLists → List RegionValue → RoomValue → Type 0
AllShown chart regions room = (r : ℕ) (region : RegionValue) → r < region_count chart.cut → ShowsRegion chart room (slice_index_or regions r region)

-- the first of some regions
first-region : (regions : List RegionValue) → 1 ≤ length regions → RegionValue
first-region [] some = absurd (omega (arith, some))
first-region (region ∷ regions) some = region

-- what a start of another cutting is that has the rows of regions at step u, and what these held a step before
pub record IsReopened (setup : SetupValue) (regions : List RegionValue) (u : ℕ) (cut : List ℕ) (even : StartLists) : Type 0 where
  pub start : IsEvenStart setup.chart regions u cut even
  pub fits : Fits setup.net cut even
  pub lawful : AreLawful setup.net cut even.steps
  pub true_start : IsTrueBelow setup.net setup.chart.cut setup.start u → IsTrueStart setup.net cut even

-- what cells held a step before
grid_state-before : (net : Network) (chart : ChartLists) (start : StartLists) (every r t : ℕ) →
    (grid_state net chart start every r t).before ≡ map (grid_before net chart.cut start t) (list_at chart.cells r)
unfolding grid_state
grid_state-before net chart start every r t = refl

module _ (setup : SetupValue) (steps : List ℕ) (regions : List RegionValue) (u : ℕ) (sound : IsNetwork setup.net) (charted : setup.chart ≡ chart_of setup.net setup.chart.cut)
    (fits : Fits setup.net setup.chart.cut setup.start) (lawful : AreLawful setup.net setup.chart.cut setup.start.steps) (come : HaveCome setup steps regions) (at : steps ≡ replicate (region_count setup.chart.cut) u) where
  -- each is at the step
  step-is : (r : ℕ) → r < region_count setup.chart.cut → slice_index steps r ≡ u
  step-is r within = ap (λ all. slice_index all r) at ∙ get_or-replicate (region_count setup.chart.cut) r u 0 within

  stands : (r : ℕ) (region : RegionValue) → r < region_count setup.chart.cut → Stands setup r u (slice_index_or regions r region)
  stands r region within =
      subst (λ t. Stands setup r t (slice_index_or regions r region)) (step-is r within) (come.stand.each r region (omega (arith, within, come.stand.one_each)))

  some-region : RegionValue
  some-region = first-region regions (omega (arith, come.stand.one_each))

  -- which isn't past the last
  step-in_time : u ≤ setup.net.steps
  step-in_time =
      let first = stands 0 some-region (omega arith) in
      omega (arith, first.opened.in_time, ap (λ state. state.step) first.state, grid_state-step setup.net setup.chart setup.start setup.every 0 u)

  started : (i : ℕ) → start_of setup.start setup.chart.cut i ≤ u
  started i =
      let within = region_at-there setup.chart.cut i in
      omega (arith, come.later (region_at setup.chart.cut i) within, step-is (region_at setup.chart.cut i) within)

  -- a start of another cutting with what a room shows of them
  module _ (cut : List ℕ) (room : RoomValue) (even : StartLists) (shown : AllShown setup.chart regions room) (is_steps : even.steps ≡ replicate (region_count cut) u)
      (is_rows : even.rows ≡ room.rows) (is_earlier : even.earlier ≡ room.earlier) (row_each : length room.rows ≡ length setup.net.cells) (earlier_each : length room.earlier ≡ length setup.net.cells) where
    row-is : (i : ℕ) → i < length setup.net.cells → row_at even.rows i ≡ grid_row setup.net setup.chart.cut setup.start u i
    row-is i there =
        let r : ℕ = region_at setup.chart.cut i in
        let within : r < region_count setup.chart.cut = region_at-there setup.chart.cut i in
        ap (λ rows. row_at rows i) is_rows ∙
        shown-row setup r u i (slice_index_or regions r some-region) room sound charted within (stands r some-region within) (shown r some-region within) there refl

    earlier-is : (i : ℕ) → i < length setup.net.cells → slice_index even.earlier i ≡ grid_before setup.net setup.chart.cut setup.start u i
    earlier-is i there =
        let r : ℕ = region_at setup.chart.cut i in
        let within : r < region_count setup.chart.cut = region_at-there setup.chart.cut i in
        ap (λ earlier. slice_index earlier i) is_earlier ∙
        shown-before setup r u i (slice_index_or regions r some-region) room sound charted within (stands r some-region within) (shown r some-region within) there refl

    held-before : (i t : ℕ) → i < length setup.net.cells → u ≡ t + 1 → slice_index even.earlier i ≡ grid_held setup.net setup.chart.cut setup.start t i
    held-before i t there later = earlier-is i there ∙ ap (λ s. grid_before setup.net setup.chart.cut setup.start s i) later ∙ grid_before-next setup.net setup.chart.cut setup.start t i

    is-even : length setup.chart.cut ≡ length setup.net.cells → IsEvenStart setup.chart regions u cut even
    is-even one_each = record {
      steps = is_steps;
      row_each = ap length is_rows ∙ row_each ∙ sym one_each;
      earlier_each = ap length is_earlier ∙ earlier_each ∙ sym one_each;
      rows = λ r region within.
          ap (λ state. state.rows) (stands r region within).state ∙ grid_state-rows setup.net setup.chart setup.start setup.every r u ∙
          map_same (grid_row setup.net setup.chart.cut setup.start u) (row_at even.rows) (list_at setup.chart.cells r)
          (λ i has. sym (row-is i ((ground setup.net setup.chart.cut setup.chart r sound charted within).own i has).0));
      earlier = λ r region within.
          ap (λ state. state.before) (stands r region within).state ∙ grid_state-before setup.net setup.chart setup.start setup.every r u ∙
          map_same (grid_before setup.net setup.chart.cut setup.start u) (slice_index even.earlier) (list_at setup.chart.cells r)
          (λ i has. sym (earlier-is i ((ground setup.net setup.chart.cut setup.chart r sound charted within).own i has).0));
    }

    -- every cell starts at the step
    starts-at : (i : ℕ) → start_of even cut i ≡ u
    starts-at i = ap (λ steps. slice_index steps (region_at cut i)) is_steps ∙ get_or-replicate (region_count cut) (region_at cut i) u 0 (region_at-there cut i)

    cell-in_bounds : (i : ℕ) → i < length setup.net.cells → IsCellInBounds setup.net cut even i
    cell-in_bounds i there = record {
      row = subst (λ t. IsRowInBounds setup.net t i (row_at even.rows i)) (sym (starts-at i))
          (subst (IsRowInBounds setup.net u i) (sym (row-is i there)) (stay_in_bounds setup.net setup.chart.cut setup.start sound fits u i there (started i) step-in_time));
      earlier = record {
        later = λ t later.
            let here : u ≡ t + 1 = sym (starts-at i) ∙ later in
            subst (IsHeldInBounds setup.net t i) (sym (held-before i t there here))
            (held_in_bounds setup.net setup.chart.cut setup.start t i sound fits there (omega (arith, started i, here)) (omega (arith, step-in_time, here)));
        none = λ none.
            let here : u ≡ 0 = sym (starts-at i) ∙ none in
            earlier-is i there ∙ grid_before-start setup.net setup.chart.cut setup.start u i (omega (arith, here)) ∙ (fits.bounds i there).earlier.none (omega (arith, started i, here));
      };
    }

    steps-in_time : (r d : ℕ) → r < length even.steps → slice_index_or even.steps r d ≤ setup.net.steps
    steps-in_time r d within =
        let inside : r < region_count cut = omega (arith, within, ap length is_steps, length-replicate {A = ℕ} (region_count cut) u) in
        omega (arith, ap (λ steps. slice_index_or steps r d) is_steps, get_or-replicate (region_count cut) r u d inside, step-in_time)

    even-fits : Fits setup.net cut even
    even-fits = record {
      one_each = ap length is_steps ∙ length-replicate {A = ℕ} (region_count cut) u;
      in_time = steps-in_time;
      rows = ap length is_rows ∙ row_each;
      earlier = ap length is_earlier ∙ earlier_each;
      bounds = cell-in_bounds;
    }

    region-starts : (r : ℕ) → r < region_count cut → slice_index even.steps r ≡ u
    region-starts r within = ap (λ steps. slice_index steps r) is_steps ∙ get_or-replicate (region_count cut) r u 0 within

    even-lawful : AreLawful setup.net cut even.steps
    even-lawful = record {
      one_each = ap length is_steps ∙ length-replicate {A = ℕ} (region_count cut) u;
      in_time = steps-in_time;
      close = λ r q near.
          let by = neighbours-by setup.net.connectors cut r q near in
          let first = touches_region-cell cut r by.connector by.first in
          let second = touches_region-cell cut q by.connector by.second in
          omega (
            arith,
            region-starts r (subst (λ p. p < region_count cut) first.2 (region_at-there cut first.0)),
            region-starts q (subst (λ p. p < region_count cut) second.2 (region_at-there cut second.0)),
          );
    }

    even-true : IsTrueBelow setup.net setup.chart.cut setup.start u → IsTrueStart setup.net cut even
    even-true below =
        let recurrences = are_the_recurrences setup.net setup.chart.cut setup.start sound lawful below.true_start in
        record {
          rows = λ i there. row-is i there ∙ recurrences u i there (started i) ∙ ap (λ s. row_at (state_at setup.net s) i) (sym (starts-at i));
          earlier = λ i t there border later.
              let here : u ≡ t + 1 = sym (starts-at i) ∙ later in
              let before : start_of setup.start setup.chart.cut i < u = below.below (λ zero. omega (arith, zero, here)) (region_at setup.chart.cut i) (region_at-there setup.chart.cut i) in
              let by_then : start_of setup.start setup.chart.cut i ≤ t = omega (arith, before, here) in
              held-before i t there here ∙ grid_held-started setup.net setup.chart.cut setup.start t i by_then ∙ ap (λ row. row.n) (recurrences t i there by_then);
        }

    pub reopened : length setup.chart.cut ≡ length setup.net.cells → IsReopened setup regions u cut even
    reopened one_each = record {
      start = is-even one_each;
      fits = even-fits;
      lawful = even-lawful;
      true_start = even-true;
    }

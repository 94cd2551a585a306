-- The content of a shot from a true start has a true start.
use Rattle.std.specs.Prelude.{map, slice_index}
use Rattle.std.specs.List.{range_with_len}
use Rattle.std.proofs.Common.{◌≡◌, ◌⊎◌, ℕ, ◌+◌, ◌<◌, ◌≤◌, inl, inr, List, length, get_or, Some, refl, sym, ap, subst, ◌∙◌, arith}
use Rattle.std.proofs.lemmas.Bool.{cases_lt}
use Rattle.std.proofs.lemmas.List.FromFn.{fill_by_all, get_or-map-range_with_len, length-map-range_with_len}
use Rattle.std.proofs.lemmas.Simd.{map-map}
use Rattle.network_file.specs.Cutting.{IsCutting}
use Rattle.network_file.specs.Network.{Network}
use Rattle.flow_model.specs.Bounds.{IsHeldInBounds, IsRowInBounds}
use Rattle.flow_model.specs.Rows.{empty_row}
use Rattle.flow_model.specs.State.{row_at, state_at}
use Rattle.region_cut.specs.CutFaults.{cut_of}
use Rattle.region_cut.specs.Cuttings.{region_at, region_count}
use Rattle.region_cut.proofs.CutFaults.{cut_of-IsCutting}
use Rattle.region_cut.proofs.Cuttings.{at-le-greatest}
use Rattle.region_step.specs.Grid.{grid_before, grid_held, grid_row}
use Rattle.region_step.specs.Start.{StartLists}
use Rattle.region_step.specs.Starting.{Fits, IsCellInBounds, IsTrueStart, start_of}
use Rattle.region_step.proofs.Grids.{are_the_recurrences, grid_before-next, grid_before-start, grid_held-earlier, grid_held-started, held_in_bounds, stay_in_bounds}
use Rattle.snapshot.specs.Rooms.{RoomValue}
use Rattle.saved_run.specs.Laws.{HasTrueStart, IsTrueShot}
use Rattle.saved_run.specs.Loading.{cutting_in, start_in}
use Rattle.saved_run.specs.Shown.{content_shown, line_shown}
use Rattle.saved_run.specs.declared.row_line.RowLine.{RowLine}
use Rattle.saved_run.proofs.Cuttings.{cutting_in-Ok, regions_in}

past_or_before : (s t : ℕ) → (s ≤ t) ⊎ (t < s)
past_or_before s t = elim (cases_lt t s) [ inl before ↦ inr before | inr other ↦ inl (omega (arith, other)) ]

-- a list of what is shown of each cell
shown_at : {X : Type 0} (f : RowLine → X) (cut : List ℕ) (room : RoomValue) (i : ℕ) (d : X) → i < length cut →
    get_or (map f (map (line_shown cut room) (range_with_len 0 (length cut)))) i d ≡ f (line_shown cut room i)
shown_at f cut room i d there =
    ap (λ list. get_or list i d) (map-map f (line_shown cut room) (range_with_len 0 (length cut)))
    ∙ get_or-map-range_with_len (λ i. f (line_shown cut room i)) 0 (length cut) i i d there (omega arith)

length-shown : {X : Type 0} (f : RowLine → X) (cut : List ℕ) (room : RoomValue) → length (map f (map (line_shown cut room) (range_with_len 0 (length cut)))) ≡ length cut
length-shown f cut room =
    ap length (map-map f (line_shown cut room) (range_with_len 0 (length cut))) ∙ length-map-range_with_len (λ i. f (line_shown cut room i)) 0 (length cut)

-- the row lines give the cutting again
regions-shown : (cut : List ℕ) (room : RoomValue) (network : List ℕ) → regions_in (content_shown cut room network).rows ≡ cut
regions-shown cut room network =
    map-map (λ line. line.region) (line_shown cut room) (range_with_len 0 (length cut))
    ∙ sym (fill_by_all (λ i. slice_index cut i) cut (length cut) 0 refl (λ k within. refl))

cutting-shown : (net : Network) (cut : List ℕ) (room : RoomValue) (network : List ℕ) → IsCutting (length net.cells) cut → length room.steps ≡ region_count cut →
    cutting_in net (content_shown cut room network) ≡ Some cut
cutting-shown net cut room network cutting one_each =
    cutting_in-Ok net (content_shown cut room network) cut (ap (cut_of net) (regions-shown cut room network) ∙ cut_of-IsCutting net cut cutting) (sym one_each)

module _ (bytes : List ℕ) (net : Network) (cut : List ℕ) (start : StartLists) (room : RoomValue) (shot : IsTrueShot bytes net cut start room) where
  abbrev pub shown : StartLists
  shown = start_in (content_shown cut room bytes)

  inside : (i : ℕ) → region_at cut i < region_count cut
  inside i = omega (arith, at-le-greatest cut i)

  in_time : (i : ℕ) → slice_index room.steps (region_at cut i) ≤ net.steps
  in_time i = shot.snapshot.lawful.in_time (region_at cut i) 0 (omega (arith, inside i, shot.snapshot.lawful.one_each))

  started : (i : ℕ) → start_of start cut i ≤ slice_index room.steps (region_at cut i)
  started i = shot.snapshot.started (region_at cut i) (inside i)

  row_is : (i : ℕ) → i < length net.cells → row_at shown.rows i ≡ grid_row net cut start (slice_index room.steps (region_at cut i)) i
  row_is i there = shown_at (λ line. line.row) cut room i empty_row (omega (arith, there, shot.cutting.one_each)) ∙ shot.snapshot.rows i there

  earlier_is : (i : ℕ) → i < length net.cells → slice_index shown.earlier i ≡ grid_before net cut start (slice_index room.steps (region_at cut i)) i
  earlier_is i there = shown_at (λ line. line.earlier) cut room i 0 (omega (arith, there, shot.cutting.one_each)) ∙ shot.snapshot.earlier i there

  -- what a cell held a step before its step
  pub held_before : (i t : ℕ) → i < length net.cells → slice_index room.steps (region_at cut i) ≡ t + 1 → slice_index shown.earlier i ≡ grid_held net cut start t i
  held_before i t there later = earlier_is i there ∙ ap (λ s. grid_before net cut start s i) later ∙ grid_before-next net cut start t i

  cell_in_bounds : (i : ℕ) → i < length net.cells → IsCellInBounds net cut shown i
  cell_in_bounds i there = record {
    row = subst (IsRowInBounds net (slice_index room.steps (region_at cut i)) i) (sym (row_is i there))
        (stay_in_bounds net cut start shot.sound shot.fits (slice_index room.steps (region_at cut i)) i there (started i) (in_time i));
    earlier = record {
      later = λ t later. subst (IsHeldInBounds net t i) (sym (held_before i t there later))
          (held_in_bounds net cut start t i shot.sound shot.fits there (omega (arith, started i, later)) (omega (arith, in_time i, later)));
      none = λ none.
          let first : start_of start cut i ≡ 0 = omega (arith, started i, none) in
          earlier_is i there ∙ grid_before-start net cut start (slice_index room.steps (region_at cut i)) i (omega (arith, none)) ∙ (shot.fits.bounds i there).earlier.none first;
    };
  }

  shown-fits : Fits net cut shown
  shown-fits = record {
    one_each = shot.snapshot.lawful.one_each;
    in_time = shot.snapshot.lawful.in_time;
    rows = length-shown (λ line. line.row) cut room ∙ shot.cutting.one_each;
    earlier = length-shown (λ line. line.earlier) cut room ∙ shot.cutting.one_each;
    bounds = cell_in_bounds;
  }

  recurrences : (t i : ℕ) → i < length net.cells → start_of start cut i ≤ t → grid_row net cut start t i ≡ row_at (state_at net t) i
  recurrences = are_the_recurrences net cut start shot.sound shot.from shot.true_start

  shown-true : IsTrueStart net cut shown
  shown-true = record {
    rows = λ i there. row_is i there ∙ recurrences (slice_index room.steps (region_at cut i)) i there (started i);
    earlier = λ i t there border later. held_before i t there later ∙ elim (past_or_before (start_of start cut i) t) [
      | inl by_then ↦ grid_held-started net cut start t i by_then ∙ ap (λ row. row.n) (recurrences t i there by_then)
      | inr not_yet ↦
          let here : start_of start cut i ≡ t + 1 = omega (arith, started i, later, not_yet) in
          grid_held-earlier net cut start t i not_yet ∙ shot.true_start.earlier i t there border here
    ];
  }

  pub shot-has_true_start : HasTrueStart (content_shown cut room bytes) net cut
  shot-has_true_start = record {
    cut_so = record { network = shot.network; cutting = cutting-shown net cut room bytes shot.cutting shot.snapshot.lawful.one_each };
    can_start = record { fits = shown-fits; lawful = shot.snapshot.lawful };
    true_start = shown-true;
  }

-- One step of a region: it can be made, and it is that of the recurrences.
use Rattle.std.specs.Prelude.{Option, None, map, replicate, slice_index, slice_index_or, unwrap_or, if◌then◌else◌}
use Rattle.std.proofs.Common.{◌≡◌, ℕ, suc, ◌<◌, ◌≤◌, ◌+◌, ◌*◌, Bool, true, false, List, [], ◌++◌, length, refl, sym, ap, subst, ◌∙◌, arith}
use Rattle.std.proofs.lemmas.List.{length-append, length-map, length-replicate}
use Rattle.std.proofs.lemmas.List.Elements.{Contains-get_or}
use Rattle.std.proofs.Math.Nat.{mul-suc}
use Rattle.network_file.specs.Network.{Network}
use Rattle.network_file.specs.Sound.{IsNetwork}
use Rattle.flow_model.specs.Bounds.{IsRowInBounds}
use Rattle.flow_model.specs.State.{occupancy, row_at}
use Rattle.flow_model.specs.Stepping.{rows_after}
use Rattle.flow_model.specs.declared.row.Row.{Row}
use Rattle.flow_model.proofs.States.{next_row-in_bounds}
use Rattle.region_cut.specs.Chart.{ChartLists, chart_of, list_at}
use Rattle.region_cut.specs.Cuttings.{region_count}
use Rattle.region_body.proofs.Whole.{length-rows_after, row_at-rows_after}
use Rattle.region_step.specs.Ordered.{AreOrdered, CanStep, OrderedCells, before_in, rows_in}
use Rattle.region_step.specs.Advance.{HasHaloPut, HasRowsInBounds, advanced, known, next_rows_of}
use Rattle.region_step.specs.Opened.{IsIn, halo_cells}
use Rattle.region_step.specs.Recording.{is_recorded, note_of}
use Rattle.region_step.specs.Noting.{notes_of, recorded_after}
use Rattle.region_step.specs.Region.{RegionState, RegionValue}
use Rattle.region_step.specs.declared.note.Note.{Note}
use Rattle.region_step.proofs.Ground.{ground}
use Rattle.region_step.proofs.Places.{known-halo, known-own}
use Rattle.region_step.proofs.Room.{recorded_after-next}

-- what its step stands on, by what was read from it
can_advance : (net : Network) (chart : ChartLists) (region : RegionValue) → IsNetwork net → IsIn net chart region → HasRowsInBounds net chart region.state → HasHaloPut net chart region.state →
    CanStep net (list_at chart.cells region.state.number) region.state.step region.body.ordered region.state.put
can_advance net chart region sound inside bounds halo =
    let cells : List ℕ = list_at chart.cells region.state.number in
    let around : List ℕ = halo_cells chart region.state.number in
    let apart = (ground net chart.cut chart region.state.number sound inside.charted inside.one_of.there).apart in
    record {
      halo = around;
      connectors = list_at chart.connectors region.state.number;
      n = known cells around region.state.rows region.state.put;
      laid = inside.ordered;
      bounds = λ p within. subst (λ rows. IsRowInBounds net region.state.step (slice_index cells p) (row_at rows p)) inside.row_each (bounds.each p within);
      seen = λ p within. known-own cells around region.state.rows region.state.put p apart within ∙ ap (λ rows. occupancy rows p) inside.row_each;
      put_each = inside.one_of.put ∙ sym (length-map (list_at chart.halo region.state.number) (λ halo. halo.cell));
      put_bounds = λ j within.
          let told = halo.each j within in
          let put : unwrap_or (slice_index_or region.state.put j None) 0 ≡ told.0 = ap (λ n. unwrap_or n 0) told.1 in
          rw put told.2;
      put_seen = λ j within. known-halo cells around region.state.rows region.state.put j apart within;
    }

-- the same of a region as it was read, and of lists that were read from it
pub can_advance-read : (net : Network) (chart : ChartLists) (read region : RegionValue) (cells : List ℕ) (put : List (Option ℕ)) → read ≡ region →
    IsNetwork net → IsIn net chart region → HasRowsInBounds net chart region.state → HasHaloPut net chart region.state →
    cells ≡ list_at chart.cells read.state.number → put ≡ read.state.put → CanStep net cells read.state.step read.body.ordered put
can_advance-read net chart read region cells put is sound inside bounds halo own told =
    rw (own, told, is) (can_advance net chart region sound inside bounds halo)

-- the cells of a region after its step: their rows, and what they held before
pub record HasStepped (net : Network) (chart : ChartLists) (region : RegionValue) (new : OrderedCells) : Type 0 where
  pub ordered : AreOrdered net (list_at chart.cells region.state.number) (halo_cells chart region.state.number) (list_at chart.connectors region.state.number) (region.state.step + 1) new
  pub rows : rows_in new ≡ next_rows_of net chart region.state
  pub before : before_in new ≡ map (λ row. row.n) region.state.rows

next-is : (net : Network) (chart : ChartLists) (region : RegionValue) → IsIn net chart region →
    rows_after net region.state.step (known (list_at chart.cells region.state.number) (halo_cells chart region.state.number) region.state.rows region.state.put)
    (list_at chart.cells region.state.number) (rows_in region.body.ordered) ≡ next_rows_of net chart region.state
next-is net chart region inside = rw (← inside.row_each) refl

-- the step of its cells says so
abbrev SaysRows : (net : Network) (t : ℕ) (cells : List ℕ) (ordered : OrderedCells) (put : List (Option ℕ)) (new : OrderedCells) → Type 0
SaysRows net t cells ordered put new =
    (can : CanStep net cells t ordered put) → rows_in new ≡ rows_after net t can.n cells (rows_in ordered)

abbrev SaysOrdered : (net : Network) (t : ℕ) (cells : List ℕ) (ordered : OrderedCells) (put : List (Option ℕ)) (new : OrderedCells) → Type 0
SaysOrdered net t cells ordered put new = (can : CanStep net cells t ordered put) → AreOrdered net cells can.halo can.connectors (t + 1) new

abbrev SaysBefore : (net : Network) (t : ℕ) (cells : List ℕ) (ordered : OrderedCells) (put : List (Option ℕ)) (new : OrderedCells) → Type 0
SaysBefore net t cells ordered put new = (can : CanStep net cells t ordered put) → before_in new ≡ map (λ row. row.n) (rows_in ordered)

stepped : (net : Network) (chart : ChartLists) (region : RegionValue) (new : OrderedCells) →
    IsNetwork net → IsIn net chart region → HasRowsInBounds net chart region.state → HasHaloPut net chart region.state →
    SaysRows net region.state.step (list_at chart.cells region.state.number) region.body.ordered region.state.put new →
    SaysOrdered net region.state.step (list_at chart.cells region.state.number) region.body.ordered region.state.put new →
    SaysBefore net region.state.step (list_at chart.cells region.state.number) region.body.ordered region.state.put new → HasStepped net chart region new
unfolding can_advance
stepped net chart region new sound inside bounds halo rows ordered before =
    let can = can_advance net chart region sound inside bounds halo in
    record {
      ordered = ordered can;
      rows = rows can ∙ next-is net chart region inside;
      before = before can ∙ ap (map (λ row. row.n)) (sym inside.row_each);
    }

pub stepped-read : (net : Network) (chart : ChartLists) (read region : RegionValue) (cells : List ℕ) (put : List (Option ℕ)) (new : OrderedCells) → read ≡ region →
    IsNetwork net → IsIn net chart region → HasRowsInBounds net chart region.state → HasHaloPut net chart region.state →
    cells ≡ list_at chart.cells read.state.number → put ≡ read.state.put →
    SaysRows net read.state.step cells read.body.ordered put new → SaysOrdered net read.state.step cells read.body.ordered put new → SaysBefore net read.state.step cells read.body.ordered put new →
    HasStepped net chart region new
stepped-read net chart read region cells put new is sound inside bounds halo own told =
    rw (own, told, is) (stepped net chart region new sound inside bounds halo)

-- what holds of it after the step

pub advanced-in_bounds : (net : Network) (chart : ChartLists) (region : RegionState) → IsNetwork net → chart ≡ chart_of net chart.cut → region.number < region_count chart.cut →
    region.step < net.steps → HasRowsInBounds net chart region → HasRowsInBounds net chart (advanced net chart region)
unfolding advanced
advanced-in_bounds net chart region sound is there before bounds =
    let here = ground net chart.cut chart region.number sound is there in
    let cells : List ℕ = list_at chart.cells region.number in
    let n : ℕ → ℕ = known cells (halo_cells chart region.number) region.rows region.put in
    record {
      each = λ p within.
          let i : ℕ = slice_index cells p in
          let has : i < length net.cells = (here.own i (Contains-get_or cells p 0 within)).0 in
          rw (row_at-rows_after net region.step n cells region.rows p within)
          (next_row-in_bounds net region.step i n (row_at region.rows p) sound before has (bounds.each p within) (known-own cells (halo_cells chart region.number) region.rows region.put p here.apart within));
    }

-- a step's notes leave room for those to come
pub noted-room : (cells trail later room : ℕ) (recorded : Bool) (rows : List Row) → length rows ≡ cells → trail + cells * ((if recorded then 1 else 0) + later) ≤ room →
    trail + length (if recorded then notes_of rows else []) + cells * later ≤ room
noted-room cells trail later room true rows long fits =
    let one : 1 + later ≡ suc later = omega arith in
    let more : cells * (1 + later) ≡ cells * later + cells = ap (λ n. cells * n) one ∙ mul-suc cells later in
    omega (arith, fits, more, long, length-map rows (λ row. note_of row))
noted-room cells trail later room false rows long fits =
    let none : 0 + later ≡ later = omega arith in
    let same : cells * (0 + later) ≡ cells * later = ap (λ n. cells * n) none in
    omega (arith, fits, same)

-- a region with the same borders, its cells placed a step on, and no less room, that has come a step on
pub advanced-inside : (net : Network) (chart : ChartLists) (old new : RegionValue) → IsIn net chart old → old.state.step < net.steps → new.state ≡ advanced net chart old.state →
    AreOrdered net (list_at chart.cells old.state.number) (halo_cells chart old.state.number) (list_at chart.connectors old.state.number) (old.state.step + 1) new.body.ordered →
    new.state.rows ≡ rows_in new.body.ordered → new.body.border ≡ old.body.border → old.body.room ≤ new.body.room → IsIn net chart new
unfolding advanced
advanced-inside net chart old new inside before is placed row_each border room =
    let r : ℕ = old.state.number in
    let cells : List ℕ = list_at chart.cells r in
    let rows : List Row = next_rows_of net chart old.state in
    let long : length rows ≡ length cells = length-rows_after net old.state.step _ cells old.state.rows in
    let later : ℕ = recorded_after net.steps old.state.every (old.state.step + 1) in
    let notes = noted-room (length cells) (length old.state.trail) later old.body.room (is_recorded net.steps old.state.every (old.state.step + 1)) rows long
    (rw (recorded_after-next net.steps old.state.every old.state.step before) at inside.room) in
    record {
      charted = inside.charted;
      one_of = rw (is, border) (record {
        there = inside.one_of.there;
        rows = long;
        before = length-map old.state.rows (λ row. row.n) ∙ inside.one_of.rows;
        put = length-replicate (length old.state.put) None ∙ inside.one_of.put;
        border = inside.one_of.border;
      });
      in_time = rw is (omega (arith, before));
      ordered = rw is placed;
      row_each = row_each;
      room = rw is (omega (
        arith,
        room,
        notes,
        length-append old.state.trail (if is_recorded net.steps old.state.every (old.state.step + 1) then notes_of rows else []),
      ));
    }

-- the notes of a step more find room
pub notes-fit : (net : Network) (chart : ChartLists) (region : RegionValue) (rows : List Row) → IsIn net chart region → region.state.step < net.steps →
    length rows ≡ length (list_at chart.cells region.state.number) → is_recorded net.steps region.state.every (region.state.step + 1) ≡ true →
    length region.state.trail + length rows ≤ region.body.room
notes-fit net chart region rows inside before long recorded =
    let more = recorded_after-next net.steps region.state.every region.state.step before in
    let count : recorded_after net.steps region.state.every region.state.step ≡ 1 + recorded_after net.steps region.state.every (region.state.step + 1) =
    more ∙ ap (λ b. (if b then 1 else 0) + recorded_after net.steps region.state.every (region.state.step + 1)) recorded in
    let room = rw count at inside.room in
    let cells : ℕ = length (list_at chart.cells region.state.number) in
    let later : ℕ = recorded_after net.steps region.state.every (region.state.step + 1) in
    let one : 1 + later ≡ suc later = omega arith in
    let more : cells * (1 + later) ≡ cells * later + cells = ap (λ n. cells * n) one ∙ mul-suc cells later in
    omega (arith, room, long, more)

pub length-next_rows_of : (net : Network) (chart : ChartLists) (region : RegionState) → length (next_rows_of net chart region) ≡ length (list_at chart.cells region.number)
length-next_rows_of net chart region = length-rows_after net region.step _ (list_at chart.cells region.number) region.rows

-- a state with these parts is the region's a step on
pub advanced-built : (net : Network) (chart : ChartLists) (old new : RegionState) → new.number ≡ old.number → new.started ≡ old.started → new.every ≡ old.every → new.step ≡ old.step + 1 →
    new.rows ≡ next_rows_of net chart old → new.before ≡ map (λ row. row.n) old.rows →
    new.trail ≡ old.trail ++ (if is_recorded net.steps old.every (old.step + 1) then notes_of (next_rows_of net chart old) else []) →
    new.put ≡ replicate (length old.put) None → new ≡ advanced net chart old
unfolding advanced
advanced-built net chart old new number started every step rows before trail put =
    built new number started every step rows before trail put
  where
    built : (region : RegionState) {number started every step : ℕ} {rows : List Row} {before : List ℕ} {trail : List Note} {put : List (Option ℕ)} → region.number ≡ number → region.started ≡ started →
        region.every ≡ every → region.step ≡ step → region.rows ≡ rows → region.before ≡ before → region.trail ≡ trail → region.put ≡ put →
        region ≡ record { number = number; started = started; every = every; step = step; rows = rows; before = before; trail = trail; put = put }
    built region e1 e2 e3 e4 e5 e6 e7 e8 = rw (← e1, ← e2, ← e3, ← e4, ← e5, ← e6, ← e7, ← e8) refl

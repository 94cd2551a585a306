-- The rows of a shot.
use Rattle.std.specs.Prelude.{slice_index}
use Rattle.std.proofs.Common.{◌≡◌, ℕ, ◌<◌, ◌≤◌, inl, inr, List, length, sym, ap, ◌∙◌, arith}
use Rattle.std.proofs.lemmas.Bool.{cases_lt}
use Rattle.std.proofs.lemmas.List.{ext_get_or, get_or_past}
use Rattle.std.proofs.lemmas.List.FromFn.{get_or-map-range_with_len, length-map-range_with_len}
use Rattle.network_file.specs.Network.{Network}
use Rattle.network_file.specs.Sound.{IsNetwork}
use Rattle.flow_model.specs.Bounds.{KeepsRooms}
use Rattle.flow_model.specs.Rows.{empty_row}
use Rattle.flow_model.specs.State.{row_at, state_at}
use Rattle.flow_model.specs.declared.row.Row.{Row}
use Rattle.flow_model.proofs.CellKinds.{road_at-there}
use Rattle.flow_model.proofs.States.{state_at-in_bounds}
use Rattle.flow_ledger.specs.UnevenSteps.{StandAt}
use Rattle.flow_ledger.proofs.BooksLaws.{books-law}
use Rattle.region_cut.specs.Chart.{ChartLists}
use Rattle.region_cut.specs.Cuttings.{region_at, region_count}
use Rattle.region_cut.specs.LawfulSteps.{AreLawful}
use Rattle.region_cut.proofs.Membership.{region_at-there}
use Rattle.region_step.specs.Start.{StartLists, zero_start}
use Rattle.region_step.specs.Starting.{Fits, IsTrueStart}
use Rattle.region_step.proofs.Grids.{are_the_recurrences, stay_in_bounds}
use Rattle.region_step.proofs.StartLaws.{zero_start-lawful, zero_start-true, zeros}
use Rattle.snapshot.specs.Rooms.{IsRoomFor, RoomValue}
use Rattle.snapshot.specs.RunLaws.{cell_step}
use Rattle.snapshot.specs.RunLaws.{AreRowsAt}
use Rattle.snapshot.specs.Shots.{IsShotBetween, KeepsBooks, rows_at}
use Rattle.snapshot.specs.Snapshots.{IsSnapshot}
use Rattle.snapshot.proofs.Crossing.{flights-crossing, nothing-inside}
use Rattle.snapshot.proofs.RunLaws.{stand_at}

-- one row for each cell

pub length-rows_at : (net : Network) (cut steps : List ℕ) → length (rows_at net cut steps) ≡ length net.cells
unfolding rows_at
length-rows_at net cut steps = length-map-range_with_len (λ i. row_at (state_at net (cell_step cut steps i)) i) 0 (length net.cells)

pub row_at-rows_at : (net : Network) (cut steps : List ℕ) (i : ℕ) → i < length net.cells → row_at (rows_at net cut steps) i ≡ row_at (state_at net (cell_step cut steps i)) i
unfolding rows_at
row_at-rows_at net cut steps i there = get_or-map-range_with_len (λ i. row_at (state_at net (cell_step cut steps i)) i) 0 (length net.cells) i i empty_row there (omega arith)

-- each is of the step of its region
pub rows_at-stand : (net : Network) (cut steps : List ℕ) → AreLawful net cut steps → StandAt net (cell_step cut steps) (rows_at net cut steps)
rows_at-stand net cut steps lawful = record {
  in_time = λ i there. lawful.in_time (region_at cut i) 0 (omega (arith, region_at-there cut i, lawful.one_each));
  each = λ i there. row_at-rows_at net cut steps i there;
}

-- so the books balance
pub books-kept : (net : Network) (cut steps : List ℕ) (rows : List Row) → IsNetwork net → StandAt net (cell_step cut steps) rows → KeepsBooks net cut rows
books-kept net cut steps rows sound stand = record {
  balanced = books-law net rows sound (cell_step cut steps) stand;
  none_within = λ k there one. nothing-inside net cut steps rows k sound stand there one;
  in_flight = flights-crossing net cut steps rows sound stand;
}

-- lawful steps between two goals are those of a shot
pub shot-between : (net : Network) (cut : List ℕ) (from to : ℕ) (steps : List ℕ) → IsNetwork net → AreLawful net cut steps →
    ((r : ℕ) → r < region_count cut → (from ≤ slice_index steps r) × (slice_index steps r ≤ to)) → IsShotBetween net cut from to steps
shot-between net cut from to steps sound lawful between =
    let stand = rows_at-stand net cut steps lawful in
    record {
      stand = record { lawful = lawful; between = between };
      books = books-kept net cut steps (rows_at net cut steps) sound stand;
      rooms = record {
        each = λ i road.
            let there = road_at-there net.cells i road in
            let bounds = (state_at-in_bounds net sound (cell_step cut steps i) (stand.in_time i there)).each i there in
            omega (arith, ap (λ row. row.n) (stand.each i there), bounds.held.road road);
      };
    }

-- a room that shows regions that began at step 0 shows the rows of the recurrences
pub shown-rows : (net : Network) (chart : ChartLists) (room : RoomValue) → IsNetwork net → length chart.cut ≡ length net.cells → IsRoomFor chart room →
    IsSnapshot net chart.cut (zero_start net chart.cut) room → room.rows ≡ rows_at net chart.cut room.steps
shown-rows net chart room sound one_each fits shows =
    let cut : List ℕ = chart.cut in
    let recurrences = are_the_recurrences net cut (zero_start net cut) sound (zero_start-lawful net cut) (zero_start-true net cut) in
    ext_get_or empty_row room.rows (rows_at net cut room.steps) (fits.rows ∙ one_each ∙ sym (length-rows_at net cut room.steps))
    (λ i within.
    let there : i < length net.cells = omega (arith, within, fits.rows, one_each) in
    shows.rows i there ∙ recurrences (cell_step cut room.steps i) i there (omega (arith, zeros (region_count cut) (region_at cut i))) ∙
    sym (row_at-rows_at net cut room.steps i there))

-- what a snapshot of a true start shows, whatever the steps at which its regions start: rows of the recurrences, so that the
-- laws of books and flights hold of them
pub snapshot-rows : (net : Network) (cut : List ℕ) (start : StartLists) (room : RoomValue) → AreLawful net cut start.steps → IsTrueStart net cut start → IsSnapshot net cut start room →
    AreRowsAt net cut start room.steps room.rows
snapshot-rows net cut start room from true_start shows = record {
  reached = record {
    true_start = true_start;
    from = from;
    lawful = shows.lawful;
    started = λ q. elim (cases_lt q (region_count cut)) [
      | inl there ↦ shows.started q there
      | inr past ↦ omega (arith, get_or_past start.steps q 0 (omega (arith, past, from.one_each)))
    ];
  };
  each = shows.rows;
}

pub snapshot-stand : (net : Network) (cut : List ℕ) (start : StartLists) (room : RoomValue) → IsNetwork net → AreLawful net cut start.steps → IsTrueStart net cut start → IsSnapshot net cut start room →
    StandAt net (cell_step cut room.steps) room.rows
snapshot-stand net cut start room sound from true_start shows = stand_at net cut start room.steps room.rows sound (snapshot-rows net cut start room from true_start shows)

-- and no road past its room
pub snapshot-rooms : (net : Network) (cut : List ℕ) (start : StartLists) (room : RoomValue) → IsNetwork net → Fits net cut start → IsSnapshot net cut start room → KeepsRooms net room.rows
snapshot-rooms net cut start room sound fits shows = record {
  each = λ i road.
      let there : i < length net.cells = road_at-there net.cells i road in
      let r : ℕ = region_at cut i in
      let t : ℕ = slice_index room.steps r in
      let inside : r < region_count cut = region_at-there cut i in
      let in_time : t ≤ net.steps = shows.lawful.in_time r 0 (omega (arith, inside, shows.lawful.one_each)) in
      let bounds = stay_in_bounds net cut start sound fits t i there (shows.started r inside) in_time in
      omega (arith, ap (λ row. row.n) (shows.rows i there), bounds.held.road road);
}

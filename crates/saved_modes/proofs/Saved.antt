-- What a room that shows a run from step 0 saves of it.
use Rattle.std.specs.Prelude.{map, slice_index}
use Rattle.std.specs.List.{range_with_len}
use Rattle.std.proofs.Common.{◌≡◌, ℕ, zero, suc, ◌+◌, ◌<◌, ◌≤◌, List, length, ap, ap₂, subst, ◌∙◌, arith}
use Rattle.network_file.specs.Network.{Network}
use Rattle.network_file.specs.Sound.{IsNetwork}
use Rattle.flow_model.specs.State.{occupancy, row_at, state_at}
use Rattle.flow_model.specs.declared.row.Row.{Row}
use Rattle.region_cut.specs.Cuttings.{region_at, region_count}
use Rattle.region_cut.proofs.Ranges.{Contains-range}
use Rattle.region_step.specs.Grid.{grid_before, grid_row}
use Rattle.region_step.specs.Start.{zero_start}
use Rattle.region_step.specs.Starting.{start_of}
use Rattle.region_step.proofs.Grids.{are_the_recurrences, grid_before-next, grid_before-start, grid_held-started}
use Rattle.region_step.proofs.Lists.{map_same}
use Rattle.region_step.proofs.StartLaws.{zero_start-lawful, zero_start-true, zeros}
use Rattle.snapshot.specs.Rooms.{RoomValue}
use Rattle.snapshot.specs.Snapshots.{IsSnapshot}
use Rattle.saved_run.specs.Content.{Content}
use Rattle.saved_run.specs.Shown.{content_shown, line_shown}
use Rattle.saved_run.specs.declared.row_line.RowLine.{RowLine}
use Rattle.saved_modes.specs.SaveMode.{earlier_at, line_at, run_at}

abbrev line_of : (region : ℕ) → Row → (earlier : ℕ) → RowLine
line_of region row earlier = record { region = region; row = row; earlier = earlier }

abbrev saved_content : (steps : List ℕ) → List RowLine → (network : List ℕ) → Content
saved_content steps rows network = record { steps = steps; rows = rows; network = network }

module _ (net : Network) (cut : List ℕ) (room : RoomValue) (sound : IsNetwork net) (one_each : length cut ≡ length net.cells) (shows : IsSnapshot net cut (zero_start net cut) room) where
  -- no region starts later
  begun : (t i : ℕ) → start_of (zero_start net cut) cut i ≤ t
  begun t i = omega (arith, zeros (region_count cut) (region_at cut i))

  recurrences : (t i : ℕ) → i < length net.cells → grid_row net cut (zero_start net cut) t i ≡ row_at (state_at net t) i
  recurrences t i there = are_the_recurrences net cut (zero_start net cut) sound (zero_start-lawful net cut) (zero_start-true net cut) t i there (begun t i)

  before : (t i : ℕ) → i < length net.cells → grid_before net cut (zero_start net cut) t i ≡ earlier_at net t i
  before zero i there = grid_before-start net cut (zero_start net cut) 0 i (omega arith) ∙ zeros (length net.cells) i
  before (suc t) i there =
      let next = grid_before-next net cut (zero_start net cut) t i ∙ grid_held-started net cut (zero_start net cut) t i (begun t i) ∙ ap (λ row. row.n) (recurrences t i there) in
      let same : t + 1 ≡ suc t = omega arith in
      subst (λ s. grid_before net cut (zero_start net cut) s i ≡ occupancy (state_at net t) i) same next

  line : (i : ℕ) → i < length net.cells → line_shown cut room i ≡ line_at net cut (slice_index room.steps (region_at cut i)) i
  line i there =
      let step : ℕ = slice_index room.steps (region_at cut i) in
      let of_row : row_at room.rows i ≡ row_at (state_at net step) i = shows.rows i there ∙ recurrences step i there in
      let held : slice_index room.earlier i ≡ earlier_at net step i = shows.earlier i there ∙ before step i there in
      ap₂ (line_of (region_at cut i)) of_row held

  -- the content of the room is the run at its steps
  pub shown-run : (network : List ℕ) → content_shown cut room network ≡ run_at net cut room.steps network
  shown-run network =
      let lines : map (line_shown cut room) (range_with_len 0 (length cut)) ≡ map (λ i. line_at net cut (slice_index room.steps (region_at cut i)) i) (range_with_len 0 (length net.cells)) =
      ap (λ cells. map (line_shown cut room) (range_with_len 0 cells)) one_each ∙
      map_same (line_shown cut room) (λ i. line_at net cut (slice_index room.steps (region_at cut i)) i) (range_with_len 0 (length net.cells)) (λ i has. line i (Contains-range (length net.cells) i has)) in
      ap (λ rows. saved_content room.steps rows network) lines

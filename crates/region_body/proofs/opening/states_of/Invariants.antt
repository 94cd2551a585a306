use Rattle.std.specs.Prelude.{slice_index}
use Rattle.std.proofs.Common.{◌≡◌, ◌<◌, ℕ, length}
use Rattle.flow_model.specs.State.{row_at}
use Rattle.cell_sweep.specs.CellStates.{cell_state_at}
use Rattle.region_body.specs.First.{IsFirst}
use Rattle.region_body.proofs.opening.states_of.Given as goal

abbrev pub invariant-loop-i : goal.invariant-loop-i
invariant-loop-i l = record {
  long : length l.states.items ≡ l.i-index;
  each : (p : ℕ) → p < l.i-index → IsFirst l.net (slice_index l.cells p) (row_at l.rows (slice_index l.cells p)) (cell_state_at l.states.items p);
}

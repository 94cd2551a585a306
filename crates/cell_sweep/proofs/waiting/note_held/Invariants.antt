use Rattle.std.specs.Prelude.{slice_index}
use Rattle.std.proofs.Common.{◌≡◌, ℕ, ◌<◌}
use Rattle.cell_sweep.specs.CellStates.{cell_state_at}
use Rattle.cell_sweep.proofs.waiting.note_held.Given as goal

abbrev pub invariant-loop-p : goal.invariant-loop-p
invariant-loop-p l = (k : ℕ) → k < l.p → slice_index l.before k ≡ (cell_state_at l.states k).n

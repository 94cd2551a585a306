use Rattle.std.proofs.Common.{◌≡◌, ℕ, ◌<◌, map}
use Rattle.flow_model.specs.State.{row_at}
use Rattle.flow_model.proofs.States.{first_row}
use Rattle.flow_model.proofs.step.first_rows.Given as goal

abbrev pub invariant-loop-i : goal.invariant-loop-i
invariant-loop-i l = (k : ℕ) → k < l.i → row_at l.rows k ≡ row_at (map first_row l.net.cells) k

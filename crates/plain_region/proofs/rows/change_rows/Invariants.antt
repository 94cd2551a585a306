use Rattle.std.specs.Prelude.{slice_index}
use Rattle.std.proofs.Common.{◌≡◌, ℕ, ◌<◌, length}
use Rattle.flow_model.specs.Rows.{moved_row}
use Rattle.flow_model.specs.State.{row_at}
use Rattle.plain_region.specs.Carrying.{change_at, enters_in_all}
use Rattle.plain_region.proofs.rows.change_rows.Given as goal

abbrev pub invariant-loop-p : goal.invariant-loop-p
invariant-loop-p l = (length l.next ≡ length l.cells) × ((q : ℕ) → q < l.p → row_at l.next q ≡
    moved_row l.net (slice_index l.cells q) (row_at l.rows q) (enters_in_all l.net l.t (slice_index l.cells q) (change_at l.changes q)) (change_at l.changes q).leaves)

use Rattle.std.specs.Prelude.{not}
use Rattle.std.proofs.Common.{◌≡◌, ◌*◌, ◌≤◌, ◌^◌}
use Rattle.network_file.specs.Cells.{is_exit_at, is_gate_at}
use Rattle.flow_model.specs.State.{occupancy}
use Rattle.flow_ledger.specs.Books.{sum_where, come_of}
use Rattle.flow_ledger.proofs.cell_sums.CellSums.of.Given as goal

abbrev pub invariant-loop-i : goal.invariant-loop-i
invariant-loop-i l = record {
  inside : l.sums.inside ≡ sum_where (λ i. not (is_exit_at l.net.cells i)) (occupancy l.rows) l.i;
  entered : l.sums.entered ≡ sum_where (is_gate_at l.net.cells) (come_of l.rows) l.i;
  left : l.sums.left ≡ sum_where (is_exit_at l.net.cells) (occupancy l.rows) l.i;
  fits_inside : l.sums.inside ≤ l.i * 2 ^ 64;
  fits_entered : l.sums.entered ≤ l.i * 2 ^ 64;
  fits_left : l.sums.left ≤ l.i * 2 ^ 64;
}

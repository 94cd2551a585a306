use Rattle.std.specs.Prelude.{All, map, slice_index}
use Rattle.std.specs.List.{filter, range_with_len}
use Rattle.std.proofs.Common.{◌≡◌}
use Rattle.network_file.specs.Cells.{is_gate_at}
use Rattle.region_body.specs.Gates.{IsGateOf}
use Rattle.region_body.proofs.opening.gates_of.Given as goal

abbrev pub invariant-loop-p : goal.invariant-loop-p
invariant-loop-p l = record {
  places : map (λ gate. gate.place) l.gates.items ≡ filter (λ p. is_gate_at l.net.cells (slice_index l.cells p)) (range_with_len 0 l.p);
  demands : All (IsGateOf l.net l.cells 0) l.gates.items;
}

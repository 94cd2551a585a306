use Rattle.std.proofs.Common.{◌≡◌, length}
use Rattle.chain_order.proofs.walk.Walk.follow.Given as goal

abbrev pub invariant-loop-place : goal.invariant-loop-place
invariant-loop-place l = record {
  placed : length l.self.placed.items ≡ l.cells;
  places : length l.self.places.items ≡ l.cells;
}

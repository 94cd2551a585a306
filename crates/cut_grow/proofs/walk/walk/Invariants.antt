use Rattle.std.proofs.Common.{◌≡◌, length}
use Rattle.cut_grow.proofs.Walking.{IsWalking}
use Rattle.cut_grow.proofs.walk.walk.Given as goal

abbrev pub invariant-loop : goal.invariant-loop
invariant-loop l = record {
  walking : IsWalking l.net l.order.items l.placed.items l.place l.lowest;
  long : length l.order.items ≡ l.counter;
}

use Rattle.std.proofs.Common.{◌≡◌, ℕ, ◌<◌, get_or, length}
use Rattle.chain_order.proofs.order.numbers.Given as goal

abbrev pub invariant-loop-m : goal.invariant-loop-m
invariant-loop-m l = record {
  long : length l.numbers.items ≡ l.m;
  own : (k : ℕ) → k < l.m → get_or l.numbers.items k 0 ≡ k;
}

use Rattle.std.proofs.Common.{◌≡◌, ℕ, ◌<◌, get_or, length}
use Rattle.cut_grow.proofs.places.places.Given as goal

abbrev pub invariant-loop-place : goal.invariant-loop-place
invariant-loop-place l = record {
  long : length l.places.items ≡ length l.order;
  forth : (q : ℕ) → q < l.place → get_or l.places.items (get_or l.order q 0) 0 ≡ q;
}

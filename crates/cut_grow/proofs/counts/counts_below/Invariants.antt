use Rattle.std.specs.Prelude.{count_by, nat_lt}
use Rattle.std.proofs.Common.{◌≡◌, ℕ, ◌<◌, get_or, length}
use Rattle.cut_grow.proofs.counts.counts_below.Given as goal

abbrev pub invariant-loop-count : goal.invariant-loop-count
invariant-loop-count l = record {
  long : length l.below.items ≡ l.count-index;
  each : (q : ℕ) → q < l.count-index → get_or l.below.items q 0 ≡ count_by (λ number. nat_lt number q) l.numbers;
  total : l.total ≡ count_by (λ number. nat_lt number l.count-index) l.numbers;
}

use Rattle.std.specs.Prelude.{count_by, eqb}
use Rattle.std.proofs.Common.{◌≡◌, ℕ, ◌≤◌, ◌+◌, get_or, length, take}
use Rattle.cut_grow.proofs.counts.counts_equal.Given as goal

abbrev pub invariant-loop-number : goal.invariant-loop-number
invariant-loop-number l = record {
  long : length l.counts.items ≡ l.bound + 1;
  each : (p : ℕ) → p ≤ l.bound → get_or l.counts.items p 0 ≡ count_by (λ number. eqb number p) (take l.number-index l.numbers);
}

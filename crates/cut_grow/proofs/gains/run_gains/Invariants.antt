use Rattle.std.proofs.Common.{◌≡◌, ℕ, ◌<◌, get_or, length}
use Rattle.cut_grow.specs.Spans.{inside}
use Rattle.cut_grow.proofs.gains.run_gains.Given as goal

abbrev pub invariant-loop-place : goal.invariant-loop-place
invariant-loop-place l = record {
  long : length l.gains.items ≡ l.place;
  each : (p : ℕ) → p < l.place → get_or l.gains.items p 0 ≡ inside l.spans p l.size;
}

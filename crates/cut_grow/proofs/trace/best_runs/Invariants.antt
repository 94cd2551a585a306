use Rattle.std.specs.Prelude.{reverse}
use Rattle.std.proofs.Common.{◌≡◌, length}
use Rattle.cut_grow.proofs.Tracing.{AreLastRuns}
use Rattle.cut_grow.proofs.trace.best_runs.Given as goal

abbrev pub invariant-loop : goal.invariant-loop
invariant-loop l = record {
  last : AreLastRuns l.sizes l.gains.spans.items l.small l.large (reverse l.runs.items);
  count : length l.runs.items ≡ l.counter;
}

use Rattle.std.proofs.Common.{◌≡◌, length}
use Rattle.cut_grow.specs.Most.{IsTable}
use Rattle.cut_grow.proofs.table.table.Given as goal

abbrev pub invariant-loop-entry : goal.invariant-loop-entry
invariant-loop-entry l = record {
  table : IsTable l.sizes l.gains.spans.items l.best.items;
  long : length l.best.items ≡ l.entry;
}

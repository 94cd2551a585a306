use Rattle.std.proofs.Common.{◌≡◌, ◌≤◌, take}
use Rattle.std.specs.Prelude.{count_by}
use Rattle.region_cut.specs.Joins.{crosses}
use Rattle.cut_grow.proofs.cut_connectors.cut_count.Given as goal

abbrev pub invariant-loop-k : goal.invariant-loop-k
invariant-loop-k l = record {
  count : l.count ≡ count_by (crosses l.list) (take l.k l.net.connectors);
  few : l.count ≤ l.k;
}

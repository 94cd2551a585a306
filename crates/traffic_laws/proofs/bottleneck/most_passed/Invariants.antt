use Rattle.std.proofs.Common.{◌≡◌, ◌*◌, ◌≤◌}
use Rattle.network_file.specs.Limits.{most_capacity}
use Rattle.traffic_laws.specs.Bottleneck.{green_capacity_over}
use Rattle.traffic_laws.proofs.bottleneck.most_passed.Given as goal

abbrev pub invariant-loop-t : goal.invariant-loop-t
invariant-loop-t l = record {
  inside : l.fn.from ≤ l.t;
  most : l.most ≡ green_capacity_over l.net l.cell l.fn.from l.t;
  fits : l.most ≤ l.t * most_capacity;
}

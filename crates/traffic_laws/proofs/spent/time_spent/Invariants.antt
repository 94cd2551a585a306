use Rattle.std.proofs.Common.{◌≡◌, ◌*◌, ◌≤◌, ◌^◌}
use Rattle.traffic_laws.specs.Area.{area_under}
use Rattle.traffic_laws.proofs.Areas.{part}
use Rattle.traffic_laws.proofs.spent.time_spent.Given as goal

abbrev pub invariant-loop-i : goal.invariant-loop-i
invariant-loop-i l = record {
  spent : l.spent ≡ area_under (part l.net l.rows) l.i;
  fits : l.spent ≤ l.i * 2 ^ 65;
}

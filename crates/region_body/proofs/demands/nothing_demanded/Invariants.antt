use Rattle.std.specs.Prelude.{All}
use Rattle.std.proofs.Common.{◌≡◌, take}
use Rattle.timelines.specs.Timelines.{value_at}
use Rattle.region_body.specs.Gates.{AreGatesKept}
use Rattle.region_body.proofs.demands.nothing_demanded.Given as goal

abbrev pub invariant-loop-m : goal.invariant-loop-m
invariant-loop-m l = record {
  kept : AreGatesKept l.t l.initial.gates l.gates;
  nothing : All (λ gate. value_at gate.timeline l.t ≡ 0) (take l.m l.initial.gates);
}

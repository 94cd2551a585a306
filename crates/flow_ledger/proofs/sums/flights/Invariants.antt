use Rattle.std.proofs.Common.{◌≡◌, ◌+ℤ◌, pos, take}
use Rattle.std.specs.List.{fold}
use Rattle.flow_ledger.specs.Flight.{flight_by}
use Rattle.flow_ledger.proofs.SignedSums.{IsSumOf}
use Rattle.flow_ledger.proofs.sums.flights.Given as goal

abbrev pub invariant-loop-k : goal.invariant-loop-k
invariant-loop-k l = record {
  sum : l.sum ≡ fold (λ sum connector. sum +ℤ flight_by l.rows connector) (pos 0) (take l.k l.net.connectors);
  fits : IsSumOf l.k l.sum;
}

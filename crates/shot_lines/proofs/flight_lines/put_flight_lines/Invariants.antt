use Rattle.std.proofs.Common.{◌≡◌, ◌++◌}
use Rattle.shot_lines.proofs.FlightLines.{flights_before}
use Rattle.shot_lines.proofs.flight_lines.put_flight_lines.Given as goal

-- the lines of the connectors before k
abbrev pub invariant-loop-k : goal.invariant-loop-k
invariant-loop-k l = l.text.items ≡ l.initial.text.items ++ flights_before l.layout.net l.layout.chart.cut l.rows l.k

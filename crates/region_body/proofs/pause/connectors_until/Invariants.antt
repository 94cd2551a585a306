use Rattle.std.specs.Prelude.{All}
use Rattle.std.proofs.Common.{take}
use Rattle.region_body.specs.Pausing.{IsIdleUntil}
use Rattle.region_body.proofs.pause.connectors_until.Given as goal

abbrev pub invariant-loop-connector : goal.invariant-loop-connector
invariant-loop-connector l = All (IsIdleUntil l.speeds l.states l.put l.until) (take l.connector-index l.connectors)

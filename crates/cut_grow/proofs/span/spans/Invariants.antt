use Rattle.std.specs.List.{AllZip}
use Rattle.std.proofs.Common.{take}
use Rattle.cut_grow.specs.Spans.{IsSpan}
use Rattle.cut_grow.proofs.span.spans.Given as goal

abbrev pub invariant-loop-connector : goal.invariant-loop-connector
invariant-loop-connector l = AllZip (IsSpan l.places) (take l.connector-index l.connectors) l.spans.items

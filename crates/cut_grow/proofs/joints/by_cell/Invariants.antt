use Rattle.cut_grow.specs.Sides.{IsSideTable}
use Rattle.cut_grow.proofs.joints.by_cell.Given as goal

abbrev pub invariant-loop-k : goal.invariant-loop-k
invariant-loop-k l = IsSideTable l.side l.cells l.connectors l.k l.table.items

use Rattle.std.specs.Prelude.{map}
use Rattle.std.proofs.Common.{◌≡◌, take}
use Rattle.flow_model.specs.State.{row_at}
use Rattle.plain_region.proofs.opening.rows_of.Given as goal

abbrev pub invariant-loop-i : goal.invariant-loop-i
invariant-loop-i l = l.own.items ≡ map (row_at l.rows) (take l.i-index l.cells)

use Rattle.std.proofs.Common.{◌≡◌, ℕ, take, Bool}
use Rattle.std.specs.List.{list_any}
use Rattle.region_cut.proofs.MetCells.{found_leaving}
use Rattle.region_cut.proofs.met.met.Given as goal

abbrev pub invariant-loop-k : goal.invariant-loop-k
invariant-loop-k l = (test : ℕ → Bool) → list_any test l.cells.items ≡ list_any (found_leaving l.net l.cut l.r test) (take l.k-index l.connectors)

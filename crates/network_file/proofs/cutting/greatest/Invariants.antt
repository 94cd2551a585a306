use Rattle.std.proofs.Common.{◌≡◌, take}
use Rattle.network_file.specs.Cutting.{greatest}
use Rattle.network_file.proofs.cutting.greatest.Given as goal

abbrev pub invariant-loop-number : goal.invariant-loop-number
invariant-loop-number l = l.most ≡ greatest (take l.number-index l.numbers)

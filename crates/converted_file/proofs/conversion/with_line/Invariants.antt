use Rattle.std.proofs.Common.{◌≡◌, ◌++◌, take}
use Rattle.converted_file.specs.Converted.{joined}
use Rattle.converted_file.proofs.conversion.with_line.Given as goal

abbrev pub invariant-loop-i : goal.invariant-loop-i
invariant-loop-i l = l.text.items ≡ l.fn.text.items ++ joined (take l.i l.row)

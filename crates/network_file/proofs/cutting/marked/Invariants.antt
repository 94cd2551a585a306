use Rattle.std.proofs.Common.{◌≡◌, ℕ, eqb, take}
use Rattle.std.specs.List.{list_any}
use Rattle.record_fields.specs.Marks.{is_marked}
use Rattle.network_file.proofs.cutting.marked.Given as goal

abbrev pub invariant-loop-number : goal.invariant-loop-number
invariant-loop-number l = (i : ℕ) → is_marked l.seen i ≡ list_any (eqb i) (take l.number-index l.numbers)

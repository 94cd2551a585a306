use Rattle.std.proofs.Common.{◌≡◌, ◌*◌, ◌/◌, map}
use Rattle.std.specs.List.{range_with_len}
use Rattle.region_cut.proofs.even.even_list.Given as goal

abbrev pub invariant-loop-i : goal.invariant-loop-i
invariant-loop-i l = l.list.items ≡ map (λ i. i * l.k / l.cells) (range_with_len 0 l.i)

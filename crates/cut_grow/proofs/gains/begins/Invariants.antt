use Rattle.std.proofs.Common.{◌≡◌, map, take}
use Rattle.cut_grow.specs.Counts.{begin_of}
use Rattle.cut_grow.proofs.gains.begins.Given as goal

abbrev pub invariant-loop-span : goal.invariant-loop-span
invariant-loop-span l = l.begins.items ≡ map (begin_of l.size) (take l.span-index l.spans)

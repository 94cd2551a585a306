use Rattle.std.proofs.Common.{◌≡◌, map, take}
use Rattle.cut_grow.proofs.gains.firsts.Given as goal

abbrev pub invariant-loop-span : goal.invariant-loop-span
invariant-loop-span l = l.firsts.items ≡ map (λ span. span.first) (take l.span-index l.spans)

use Rattle.std.specs.Prelude.{map}
use Rattle.std.proofs.Common.{◌≡◌, take}
use Rattle.saved_run.proofs.layout_in.region_numbers.Given as goal

-- the numbers so far
abbrev pub invariant-loop-line : goal.invariant-loop-line
invariant-loop-line l = l.regions.items ≡ map (λ line. line.region) (take l.line-index l.rows)

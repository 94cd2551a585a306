use Rattle.std.specs.Prelude.{All, slice_index}
use Rattle.std.proofs.Common.{◌≤◌, take}
use Rattle.step_words.proofs.raise.is_lowest.Given as goal

abbrev pub invariant-loop-q : goal.invariant-loop-q
invariant-loop-q l = All (λ q. slice_index l.steps l.r ≤ slice_index l.steps q) (take l.q-index l.neighbours)

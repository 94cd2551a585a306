use Rattle.std.proofs.Common.{◌≡◌, ◌+◌, ◌/◌, ◌%◌, ◌∷◌, ◌++◌, map, take}
use Rattle.fixed_flow.specs.declared.printing.TheConstants.{PLACES}
use Rattle.fixed_flow.proofs.printing.append_decimals.Given as goal

abbrev pub invariant-loop-place : goal.invariant-loop-place
invariant-loop-place l = l.text ≡ l.fn.text ++ 46 ∷ map (λ place. 48 + l.decimals / place % 10) (take l.place-index PLACES)

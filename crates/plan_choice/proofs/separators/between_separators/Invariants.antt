use Rattle.std.proofs.Common.{◌≡◌, ◌++◌, length, map}
use Rattle.plan_choice.specs.Pieces.{pieces_in}
use Rattle.plan_choice.proofs.separators.between_separators.Given as goal

-- the pieces so far stand before those of the rest
abbrev pub invariant-loop-piece : goal.invariant-loop-piece
invariant-loop-piece l = pieces_in l.text ≡ map (λ piece. piece.now) l.pieces.items ++ pieces_in l.rest

abbrev pub decreases-loop-piece : goal.decreases-loop-piece
decreases-loop-piece l = length l.rest

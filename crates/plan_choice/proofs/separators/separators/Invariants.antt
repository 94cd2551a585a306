use Rattle.std.proofs.Common.{◌≡◌, ◌+◌, ◌≤◌, length}
use Rattle.plan_choice.specs.Pieces.{pieces_in}
use Rattle.plan_choice.proofs.separators.separators.Given as goal

abbrev pub invariant-loop-behind : goal.invariant-loop-behind
invariant-loop-behind l = record {
  counted : length (pieces_in l.text) ≡ l.found + length (pieces_in l.rest);
  few : l.found + length l.rest ≤ length l.text;
}

abbrev pub decreases-loop-behind : goal.decreases-loop-behind
decreases-loop-behind l = length l.rest

use Rattle.std.specs.Prelude.{drop, take}
use Rattle.std.proofs.Common.{◌≡◌, ◌≤◌, ◌-◌, length}
use Rattle.plan_choice.specs.Pieces.{pieces_in}
use Rattle.plan_choice.proofs.Cutting.{leads}
use Rattle.plan_choice.proofs.separators.split_once.Given as goal

-- the lines so far stand in front of the pieces of the rest
abbrev pub invariant-loop-at : goal.invariant-loop-at
invariant-loop-at l = record {
  inside : l.at ≤ length l.text;
  front : pieces_in l.text ≡ leads (take l.at l.text) (pieces_in (drop l.at l.text));
}

abbrev pub decreases-loop-at : goal.decreases-loop-at
decreases-loop-at l = length l.text - l.at

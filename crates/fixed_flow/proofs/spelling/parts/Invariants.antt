use Rattle.std.proofs.Common.{◌≡◌, drop}
use Rattle.fixed_flow.specs.Spelling.{amount_of}
use Rattle.fixed_flow.proofs.PassFacts.{parts_from, IsBelowDigits}
use Rattle.fixed_flow.proofs.spelling.parts.Given as goal

-- the text is spelled as the pass over the bytes that are left will find
abbrev pub invariant-loop-at : goal.invariant-loop-at
invariant-loop-at l = record {
  same : amount_of l.text ≡ parts_from l.value l.at l.point (drop l.at l.text);
  below : IsBelowDigits l.value l.at l.point;
}

use Rattle.std.proofs.Common.{refl, arith}
use Rattle.diverge_rule.specs.Diverge.{diverge_of}
use Rattle.diverge_rule.proofs.DivergeFacts.{IsAllowed-at_most}
use Rattle.diverge_rule.proofs.flow.diverge_flow.Goals as goal

pub returns-clause-rule : goal.returns-clause-rule
unfolding diverge_of
returns-clause-rule c = rw (c.of.ensures, c.parts_within-parts.ensures) refl

pub returns-clause-greatest : goal.returns-clause-greatest
returns-clause-greatest c =
    λ k allowed. rw (c.of.ensures, c.parts_within-parts.ensures) (IsAllowed-at_most c.args.s c.args.r1 c.args.r2 c.args.b1 c.args.b2 k c.requires.first_turns c.requires.second_turns allowed)

pub returns-clause-ratio : goal.returns-clause-ratio
returns-clause-ratio c = rw c.of.ensures (grind arith)

use Rattle.std.proofs.Common.{refl}
use Rattle.diverge_rule.specs.Diverge.{diverge_of}
use Rattle.diverge_rule.proofs.flow.diverge_by_whole.Goals as goal

pub returns : goal.returns
unfolding diverge_of
returns c = λ s whole. rw (c.of.ensures, c.parts_within-parts.ensures, whole) refl

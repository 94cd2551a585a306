use Rattle.std.specs.List.{Contains}
use Rattle.std.proofs.Common.{ap, subst}
use Rattle.border_rows.specs.declared.view.View.{View}
use Rattle.region_slots.proofs.field.Field.takes_within.Goals as goal

pub try_claim-requires-clause-others : goal.try_claim-requires-clause-others
try_claim-requires-clause-others c = λ hold has. c.requires.others hold (subst (λ holds. Contains holds hold) (ap (λ (v : View). v.holds) c.loop-failed.invariant.3.same) has)

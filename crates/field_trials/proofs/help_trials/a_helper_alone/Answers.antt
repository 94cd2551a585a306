use Rattle.std.proofs.Common.{[], sym, subst}
use Rattle.std.proofs.lemmas.List.Elements.{All-cons, All-nil}
use Rattle.worker_claim.specs.Helping.{AreHelpersOf, IsHelperOf}
use Rattle.field_trials.proofs.help_trials.a_helper_alone.Goals as goal

pub crew_hints-requires-clause-helpers : goal.crew_hints-requires-clause-helpers
crew_hints-requires-clause-helpers g c = λ lifetimes outlive.
    subst (AreHelpersOf c.args.field) (sym c.from_mut-helpers.ensures.value)
    (All-cons (IsHelperOf c.args.field) c.helper_at-helper.result [] c.helper_at-helper.ensures (All-nil (IsHelperOf c.args.field)))

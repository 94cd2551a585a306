use Rattle.std.proofs.Common.{[], ◌∷◌}
use Rattle.std.proofs.lemmas.List.Elements.{All-cons, All-nil}
use Rattle.worker_claim.specs.Helping.{IsHelperOf}
use Rattle.field_trials.proofs.help_trials.two_helpers.Goals as goal

pub crew_hints-requires-clause-helpers : goal.crew_hints-requires-clause-helpers
crew_hints-requires-clause-helpers g c = λ lifetimes outlive.
    let helps = IsHelperOf c.args.field in
    All-cons helps c.helper_at.result (c.helper_at-2.result ∷ []) c.helper_at.ensures
    (All-cons helps c.helper_at-2.result [] c.helper_at-2.ensures (All-nil helps))

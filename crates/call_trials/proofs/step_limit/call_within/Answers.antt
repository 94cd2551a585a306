use Rattle.std.proofs.Common.{refl}
use Rattle.call_trials.proofs.Within.{call-within}
use Rattle.call_trials.proofs.step_limit.call_within.Goals as goal

pub returns : goal.returns
returns g c = λ done.
    call-within _ _ _ _ c.args.most _ _ _ (λ run r s below. below) c.ctm-status.ensures.ended refl done

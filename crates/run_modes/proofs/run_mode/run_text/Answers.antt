use Rattle.call_beginning.specs.Recording.{why_unrecorded}
use Rattle.run_modes.proofs.run_mode.run_text.Goals as goal

pub returns-in-Err-clause-refusal : goal.returns-in-Err-clause-refusal
returns-in-Err-clause-refusal g c = c.in-Err.ensures.refusal (λ net. why_unrecorded net c.args.request.every)

use Rattle.std.proofs.Common.{None}
use Rattle.run_modes.proofs.sample_mode.sample_text.Goals as goal

pub returns-in-Err-clause-refusal : goal.returns-in-Err-clause-refusal
returns-in-Err-clause-refusal g c = c.in-Err.ensures.refusal (λ net. None)

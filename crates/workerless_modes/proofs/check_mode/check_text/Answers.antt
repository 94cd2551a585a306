use Rattle.std.proofs.Common.{None}
use Rattle.workerless_modes.proofs.check_mode.check_text.Goals as goal

pub returns-in-Err-clause-refusal : goal.returns-in-Err-clause-refusal
returns-in-Err-clause-refusal c = c.in-Err.ensures.refusal (λ net. None)

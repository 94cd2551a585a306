use Rattle.std.proofs.Common.{None}
use Rattle.workerless_modes.proofs.cut_mode.cut_text.Goals as goal

pub returns-in-Err-clause-refusal : goal.returns-in-Err-clause-refusal
returns-in-Err-clause-refusal c = c.in-Err.ensures.refusal (λ net. None)

use Rattle.std.proofs.Common.{None}
use Rattle.saved_modes.proofs.save_mode.save_text.Goals as goal

pub returns-in-Err-clause-refusal : goal.returns-in-Err-clause-refusal
returns-in-Err-clause-refusal g c = c.in-Err.ensures.refusal (λ net. None)

use Rattle.std.specs.Option.{option_or}
use Rattle.call_beginning.specs.Recording.{why_unrecorded}
use Rattle.run_modes.specs.WatchMode.{why_unshown}
use Rattle.run_modes.proofs.watch_mode.watch_text.Goals as goal

pub returns-in-Err-clause-refusal : goal.returns-in-Err-clause-refusal
returns-in-Err-clause-refusal g c =
    c.in-Err.ensures.refusal (λ net. option_or (why_unrecorded net c.args.request.every) (why_unshown net c.args.request.shots))

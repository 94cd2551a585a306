use Rattle.std.proofs.Common.{refl}
use Rattle.call_beginning.proofs.Inputs.{long_input, some_input}
use Rattle.network_file.specs.Limits.{most_bytes}
use Rattle.wait_call.proofs.AnswerFacts.{answer_to-too_large}
use Rattle.wait_call.proofs.input.input_of.Goals as goal

pub returns-in-TooLong-clause-refusal : goal.returns-in-TooLong-clause-refusal
returns-in-TooLong-clause-refusal g c =
    let long = long_input most_bytes (g.S.Source.left c.args.source.now) c.in-TooLong.ensures.too_long in
    (long.0, long.1, rw (answer_to-too_large long.0 long.2) refl)

pub returns-in-Failed-clause-refusal : goal.returns-in-Failed-clause-refusal
returns-in-Failed-clause-refusal g c = let some = some_input (g.S.Source.left c.args.source.now) in (some.0, some.1, c.in-Failed.ensures.failed)

pub returns-in-NoMemory-clause-refusal : goal.returns-in-NoMemory-clause-refusal
returns-in-NoMemory-clause-refusal g c = let some = some_input (g.S.Source.left c.args.source.now) in (some.0, some.1, tt)

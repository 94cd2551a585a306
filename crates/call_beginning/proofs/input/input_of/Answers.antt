use Rattle.std.proofs.Common.{sym, ◌∙◌}
use Rattle.net_make.specs.Made.{made}
use Rattle.call_beginning.proofs.Inputs.{allowed, long_input, made_input_is, read_input_is, some_input, too_long}
use Rattle.call_beginning.proofs.input.input_of.Goals as goal

pub returns-in-Err-clause-refusal : goal.returns-in-Err-clause-refusal
returns-in-Err-clause-refusal g c = (
  made c.args.request.size c.args.request.seed,
  made_input_is c.args.request (g.S.Source.left c.args.source.now) (sym c.reads_source.ensures ∙ c.if-not-reads_source.true),
  allowed _ _ c.in-Err.refusal c.in-Err.ensures.refusal,
)

pub returns-in-TooLong-clause-refusal : goal.returns-in-TooLong-clause-refusal
returns-in-TooLong-clause-refusal g c =
    let long = long_input _ (g.S.Source.left c.args.source.now) c.in-TooLong.ensures.too_long in (
      long.0,
      read_input_is c.args.request (g.S.Source.left c.args.source.now) long.0 (sym c.reads_source.ensures ∙ c.if-not-reads_source.false) long.1,
      rw (too_long c.args.request.mode long.0 (rw (sym c.most_input.ensures) long.2)) (allowed _ _ c.large_input.result c.large_input.ensures),
    )

pub returns-in-Failed-clause-refusal : goal.returns-in-Failed-clause-refusal
returns-in-Failed-clause-refusal g c =
    let some = some_input (g.S.Source.left c.args.source.now) in (
      some.0,
      read_input_is c.args.request (g.S.Source.left c.args.source.now) some.0 (sym c.reads_source.ensures ∙ c.if-not-reads_source.false) some.1,
      (sym c.reads_source.ensures ∙ c.if-not-reads_source.false, c.in-Failed.ensures.failed),
    )

pub returns-in-NoMemory-clause-refusal : goal.returns-in-NoMemory-clause-refusal
returns-in-NoMemory-clause-refusal g c =
    let some = some_input (g.S.Source.left c.args.source.now) in
    (some.0, read_input_is c.args.request (g.S.Source.left c.args.source.now) some.0 (sym c.reads_source.ensures ∙ c.if-not-reads_source.false) some.1, tt)

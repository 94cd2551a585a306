use Rattle.wait_call.proofs.AnswerFacts.{answered_refusal, answered_text, refused_input, refused_words}
use Rattle.wait_call.proofs.answer.answer.Goals as goal

pub returns-in-Err-clause-refusal : goal.returns-in-Err-clause-refusal
returns-in-Err-clause-refusal g c = refused_words c.args.words.now (g.S.Source.left c.args.source.now) _ c.in-Err.refusal c.in-Err.ensures.refused.0 c.in-Err.ensures.refused.2

pub returns-in-Err-input_of-clause-refusal : goal.returns-in-Err-input_of-clause-refusal
returns-in-Err-input_of-clause-refusal g c =
    refused_input c.args.words.now c.in-Ok.workers (g.S.Source.left c.args.source.now) _ c.in-Err-input_of.refusal c.in-Ok.ensures.accepted c.in-Err-input_of.ensures.refusal

pub returns-clause-text : goal.returns-clause-text
returns-clause-text g c =
    answered_text (g.W.Observer.told_held c.args.observer.now) (g.W.Observer.told_freed c.args.observer.now) (λ text. text.items) c.args.words.now c.in-Ok.workers (g.S.Source.left c.args.source.now) c.deref.result.now c.in-Ok.ensures.accepted (rw c.deref.ensures.value c.in-Ok-input_of.ensures.input.0) c.report_in.result
    c.report_in.ensures.text

pub returns-clause-refusal : goal.returns-clause-refusal
returns-clause-refusal g c =
    answered_refusal c.args.words.now c.in-Ok.workers (g.S.Source.left c.args.source.now) c.deref.result.now _ c.in-Ok.ensures.accepted (rw c.deref.ensures.value c.in-Ok-input_of.ensures.input.0) c.report_in.result
    c.report_in.ensures.refusal

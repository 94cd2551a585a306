use Rattle.ctm_call.proofs.AnswerFacts.{answered_refusal, answered_text, refused_input, refused_words}
use Rattle.call_beginning.specs.Words.{requested}
use Rattle.ctm_call.proofs.answer.answer.Goals as goal

pub returns-in-Err-clause-refusal : goal.returns-in-Err-clause-refusal
returns-in-Err-clause-refusal g c = refused_words (requested c.args.words.now) (g.S.Source.left c.args.source.now) _ c.in-Err.refusal c.in-Err.ensures.refusal

pub returns-in-Err-input_of-clause-refusal : goal.returns-in-Err-input_of-clause-refusal
returns-in-Err-input_of-clause-refusal g c =
    refused_input (requested c.args.words.now) c.in-Ok.request (g.S.Source.left c.args.source.now) c.in-Err-input_of.refusal _ c.in-Ok.ensures.accepted c.in-Err-input_of.ensures.refusal

pub returns-clause-text : goal.returns-clause-text
returns-clause-text g c =
    answered_text (g.W.Observer.told_held c.args.observer.now) (g.W.Observer.told_freed c.args.observer.now) (g.W.Observer.told_watching c.args.observer.now) (g.W.Observer.told_watched c.args.observer.now) (λ text. text.items) (requested c.args.words.now) c.in-Ok.request (g.S.Source.left c.args.source.now) c.deref.result.now c.in-Ok.ensures.accepted (rw c.deref.ensures.value c.in-Ok-input_of.ensures.input.0) (rw c.deref.ensures.value c.in-Ok-input_of.ensures.input.1) c.text_of.result
    c.text_of.ensures.text c.text_of.ensures.told

pub returns-clause-refusal : goal.returns-clause-refusal
returns-clause-refusal g c =
    answered_refusal (requested c.args.words.now) c.in-Ok.request (g.S.Source.left c.args.source.now) c.deref.result.now _ c.in-Ok.ensures.accepted (rw c.deref.ensures.value c.in-Ok-input_of.ensures.input.0) (rw c.deref.ensures.value c.in-Ok-input_of.ensures.input.1) c.text_of.result
    c.text_of.ensures.refusal

use Rattle.ctm_call.proofs.Called.{called}
use Rattle.ctm_call.proofs.WordsStatus.{refused-words, words-refused}
use Rattle.ctm_call.proofs.call.ctm.Goals as goal

pub returns-clause-ended : goal.returns-clause-ended
returns-clause-ended g c =
    called (g.W.Observer.told_held c.args.observer.now) (g.W.Observer.told_freed c.args.observer.now) (g.W.Observer.told_watching c.args.observer.now) (g.W.Observer.told_watched c.args.observer.now) _ _ (λ text. text.items) c.answer-answer.result
    c.answer-answer.ensures.text c.answer-answer.ensures.refusal c.answer-answer.ensures.at_end c.end.ensures.text c.end.ensures.refusal

pub returns-clause-words : goal.returns-clause-words
returns-clause-words g c =
    words-refused (g.W.Observer.told_held c.args.observer.now) (g.W.Observer.told_freed c.args.observer.now) (g.W.Observer.told_watching c.args.observer.now) (g.W.Observer.told_watched c.args.observer.now) _ _ (returns-clause-ended g c)

pub returns-clause-refused : goal.returns-clause-refused
returns-clause-refused g c =
    refused-words (g.W.Observer.told_held c.args.observer.now) (g.W.Observer.told_freed c.args.observer.now) (g.W.Observer.told_watching c.args.observer.now) (g.W.Observer.told_watched c.args.observer.now) _ _ (returns-clause-ended g c)

use Rattle.wait_call.specs.Words.{workers_asked}
use Rattle.wait_call.proofs.Called.{called, told-words, words-told}
use Rattle.wait_call.proofs.call.ctm_wait.Goals as goal

pub returns-clause-ended : goal.returns-clause-ended
returns-clause-ended g c =
    called (g.W.Observer.told_held c.args.observer.now) (g.W.Observer.told_freed c.args.observer.now) _ _ (λ text. text.items) c.answer-answer.result c.answer-answer.ensures.text c.answer-answer.ensures.refusal
    c.answer-answer.ensures.at_end c.end.ensures.text c.end.ensures.refusal

pub returns-clause-words : goal.returns-clause-words
returns-clause-words g c = words-told (g.W.Observer.told_held c.args.observer.now) (g.W.Observer.told_freed c.args.observer.now) _ _ (returns-clause-ended g c)

pub returns-clause-refused : goal.returns-clause-refused
returns-clause-refused g c =
    told-words (workers_asked c.args.words.now) _ _ _ c.answer-answer.result c.answer-answer.ensures.words c.answer-answer.ensures.accepted c.end.ensures.refusal

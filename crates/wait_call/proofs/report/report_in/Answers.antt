use Rattle.std.proofs.Common.{◌≡◌, None, Ok, refl, sym, ◌∙◌, ap, subst}
use Rattle.network_file.specs.Reading.{network_of}
use Rattle.call_ending.specs.Refusing.{IsRefusalOf}
use Rattle.network_run.specs.Telling.{Telling}
use Rattle.wait_call.specs.Answer.{answer_of_file, answer_to, why_in}
use Rattle.wait_call.specs.Telling.{IsReported}
use Rattle.wait_call.proofs.AnswerFacts.{answer_to-fits, why_in-file}
use Rattle.wait_call.proofs.report.report_in.Goals as goal

pub returns-in-Err-clause-refusal : goal.returns-in-Err-clause-refusal
returns-in-Err-clause-refusal g c =
    subst (λ why. IsRefusalOf why ⊥ c.in-Err.refusal) (sym (ap why_in (answer_to-fits c.args.input.now c.requires.few_bytes) ∙ why_in-file (network_of c.args.input.now))) (c.in-Err.ensures.refusal (λ net. None))

pub returns-clause-text : goal.returns-clause-text
returns-clause-text g c =
    let held : Telling = g.W.Observer.told_held c.args.observer.now in
    let freed : Telling = g.W.Observer.told_freed c.args.observer.now in
    let is : answer_to c.args.input.now ≡ Ok c.in-Ok.net = answer_to-fits c.args.input.now c.requires.few_bytes ∙ ap answer_of_file c.in-Ok.ensures.network in
    subst (λ answer. IsReported held freed answer c.in_ok-text.text.items) (sym is) (c.in_ok-text.ensures.text, c.in_ok-text.ensures.told refl)

use Rattle.std.proofs.Common.{◌≡◌, ◌∙◌, rules, ap, sym, subst, [], map}
use Rattle.std.specs.Prelude.{string_bytes}
use Rattle.std.specs.Result.{result_ok}
use Rattle.clap.specs.Words.{HasKind, app_of, fault_of, found_of, is_simple, is_simple_and_free, kind_of, matches_of, rows_of}
use Rattle.command_words.specs.KnownWords.{command}
use Rattle.command_words.specs.Refusing.{refusal_of}
use Rattle.command_words.specs.Words.{request_of}
use Rattle.command_words.specs.declared.refusal.WordsRefusal.TheVariants.{Refused}
use Rattle.command_words.proofs.CommandLemmas.{is_simple-command, is_simple_and_free-command}
use Rattle.command_words.proofs.RefusalLemmas.{is_empty-refused}
use Rattle.command_words.proofs.RequestLemmas.{IfOk-result_ok, request_of-faulty, request_of-taken}
use Rattle.command_words.proofs.reading.read_words.Goals as goal

pub returns-in-Ok : goal.returns-in-Ok
returns-in-Ok c =
    let words = map string_bytes c.args.words.now in
    let known : app_of c.in_ok-known.known ≡ command = c.in_ok-known.ensures in
    let no_fault : fault_of command words ≡ [] =
    sym (ap (λ app. fault_of app words) known) ∙ c.in-Ok.ensures.kinds (ap is_simple_and_free known ∙ is_simple_and_free-command) in
    let found : rows_of (found_of c.in-Ok.matches) ≡ matches_of command words =
    (c.in-Ok.ensures.matches (ap is_simple known ∙ is_simple-command)).0 ∙ ap (λ app. matches_of app words) known in
    let request : request_of words ≡ result_ok c.ok_or.result =
    request_of-taken words _ no_fault found ∙ sym c.requested.ensures.value ∙ c.ok_or.ensures.ok_part in
    record { accepted = IfOk-result_ok c.ok_or.result _ request; refused = λ same. request ∙ ap result_ok same; in_range = search rules }

pub returns-in-Err-clause-refused : goal.returns-in-Err-clause-refused
returns-in-Err-clause-refused c = λ same.
    let words = map string_bytes c.args.words.now in
    let known : app_of c.in_ok-known.known ≡ command = c.in_ok-known.ensures in
    let faults : HasKind (fault_of command words) c.in-Err.error =
    subst (λ app. HasKind (fault_of app words) c.in-Err.error) known (c.in-Err.ensures.kinds (ap is_simple_and_free known ∙ is_simple_and_free-command)) in
    let refused : refusal_of (kind_of c.in-Err.error) ≡ Refused = cc in
    request_of-faulty words (is_empty-refused _ c.in-Err.error faults refused)

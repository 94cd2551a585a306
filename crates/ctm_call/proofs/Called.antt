-- A call by the answer that it found and by what came of writing it.
use Rattle.std.proofs.Common.{◌≡◌, ℕ, true, List, Result, Ok, Err, IfOk, IfErr, OnOk}
use Rattle.call_ending.specs.Calls.{Call}
use Rattle.call_ending.specs.Refusing.{IsRefusalOf, line_of, status_of}
use Rattle.call_ending.specs.Writing.{IsUnwritten, IsWritten}
use Rattle.call_ending.specs.declared.refusal.Refusal.{Refusal}
use Rattle.call_ending.specs.declared.status.Status.{Status}
use Rattle.call_ending.proofs.Ended.{ended-unwritten, ended-written}
use Rattle.network_run.specs.Telling.{Telling}
use Rattle.network_run.specs.ToldShots.{TellingOfShots, TellingOfWatchers}
use Rattle.ctm_call.specs.Answer.{why_none}
use Rattle.ctm_call.specs.Ended.{HasAnswered, answer_for}
use Rattle.ctm_call.specs.Telling.{IsAnswered}
use Rattle.call_beginning.specs.Input.{IsInputOf, IsReadWhole, asks_source}
use Rattle.call_beginning.specs.Words.{requested}

pub called : {A : Type 0} (held freed : Telling) (watching : TellingOfWatchers) (watched : TellingOfShots) (call : Call) (status : Status) (items : A → List ℕ) (answer : Result A Refusal) →
    let asked = requested call.words in
    IfOk answer (λ text. (input : List ℕ) × IsInputOf asked call.source.before input × IsAnswered held freed watching watched asked input (items text)) →
    IfErr answer (λ refusal. (input : List ℕ) × IsInputOf asked call.source.before input
    × IsRefusalOf (why_none asked input) ((asks_source asked ≡ true) × call.source.Failed) refusal) →
    OnOk answer (IsReadWhole asked call.source.after) →
    IfOk answer (λ text. IsWritten (items text) status call.out call.err) →
    IfErr answer (λ refusal. IsUnwritten (status_of refusal) (line_of refusal) status call.out call.err) →
    HasAnswered held freed watching watched call status
called held freed watching watched call status items (Ok text) given refused read written unwritten = record {
  input = given.0;
  is_input = given.1;
  ended = ended-written (answer_for held freed watching watched (requested call.words) given.0) call status (items text) given.2 read written;
}
called held freed watching watched call status items (Err refusal) given refused read written unwritten = record {
  input = refused.0;
  is_input = refused.1;
  ended = ended-unwritten (answer_for held freed watching watched (requested call.words) refused.0) call status refusal refused.2 unwritten;
}

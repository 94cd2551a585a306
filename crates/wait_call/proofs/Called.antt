-- A call by the answer that it found and by what came of writing it.
use Rattle.std.specs.Prelude.{is_some}
use Rattle.std.specs.Io.KnownBytes.{IsAtEnd}
use Rattle.std.proofs.Common.{◌≡◌, ℕ, Bool, true, false, List, Option, Some, None, Result, Ok, Err, IfOk, IfErr, OnOk, IfSome, refl, sym, subst, ap, ◌∙◌, if◌then◌else◌, length, nat_lt, arith}
use Rattle.std.proofs.lemmas.Bool.{false≢true}
use Rattle.network_file.specs.Limits.{most_bytes}
use Rattle.network_file.specs.Network.{Network}
use Rattle.network_file.specs.Reading.{network_of}
use Rattle.network_file.specs.declared.fault.NetFault.{NetFault}
use Rattle.call_ending.specs.Calls.{Call, SinkUse}
use Rattle.call_ending.specs.Ending.{HasEnded}
use Rattle.call_ending.specs.Refusing.{IsRefusalOf, line_of, status_of}
use Rattle.call_ending.specs.Why.{Why}
use Rattle.call_ending.specs.Status.{status_number}
use Rattle.call_ending.specs.Writing.{IsUnwritten, IsWritten}
use Rattle.call_ending.specs.declared.refusal.Refusal.{Refusal}
use Rattle.call_ending.specs.declared.status.Status.{Status}
use Rattle.call_ending.specs.declared.status.Status.TheVariants as status
use Rattle.call_ending.proofs.Ended.{ended-unwritten, ended-written}
use Rattle.call_beginning.specs.Input.{large_input}
use Rattle.network_run.specs.Telling.{Telling}
use Rattle.wait_call.specs.Answer.{answer_by, answer_of, answer_of_file, why_in}
use Rattle.wait_call.specs.Ended.{HasReported, report_for}
use Rattle.wait_call.specs.Telling.{IsReported}
use Rattle.wait_call.specs.Words.{workers_asked}

pub called : {A : Type 0} (held freed : Telling) (call : Call) (told : Status) (items : A → List ℕ) (answer : Result A Refusal) →
    IfOk answer (λ text. (input : List ℕ) × IfSome call.source.before (λ bytes. input ≡ bytes) × IsReported held freed (answer_of call.words input) (items text)) →
    IfErr answer (λ refusal. (input : List ℕ) × IfSome call.source.before (λ bytes. input ≡ bytes)
    × IsRefusalOf (why_in (answer_of call.words input)) ((is_some (workers_asked call.words) ≡ true) × call.source.Failed) refusal) →
    OnOk answer (IsAtEnd call.source.after) →
    IfOk answer (λ text. IsWritten (items text) told call.out call.err) →
    IfErr answer (λ refusal. IsUnwritten (status_of refusal) (line_of refusal) told call.out call.err) →
    HasReported held freed call told
called held freed call told items (Ok text) given refused at_end written unwritten = record {
  input = given.0;
  is_input = given.1;
  ended = ended-written (report_for held freed (workers_asked call.words) given.0) call told (items text) given.2 (λ is. at_end) written;
}
called held freed call told items (Err refusal) given refused at_end written unwritten = record {
  input = refused.0;
  is_input = refused.1;
  ended = ended-unwritten (report_for held freed (workers_asked call.words) refused.0) call told refusal refused.2 unwritten;
}

-- where the words are refused it ends so
pub told-words : {A : Type 0} (asked : Option ℕ) (told : Status) (out err : SinkUse) (answer : Result A Refusal) → IfErr answer (λ refusal. asked ≡ None → status_of refusal ≡ status.Words) → OnOk answer (is_some asked ≡ true) →
    IfErr answer (λ refusal. IsUnwritten (status_of refusal) (line_of refusal) told out err) → asked ≡ None → told ≡ status.Words
told-words asked told out err (Ok text) words accepted unwritten none = absurd (false≢true (sym (ap is_some none) ∙ accepted))
told-words asked told out err (Err refusal) words accepted unwritten none = unwritten.ends ∙ words none

-- and with that status only where they are
other : (told : Status) → (status_number told ≡ 2 → ⊥) → told ≡ status.Words → ⊥
other told not is = not (ap status_number is)

other-file : (read : Result Network NetFault) → IfSome (why_in (answer_of_file read)) (λ why. why.status ≡ status.Words → ⊥)
other-file (Ok net) = tt
other-file (Err fault) = other status.Network (λ e. omega (arith, e))

other-unless : (large : Bool) (read : Result Network NetFault) → IfSome (why_in (if large then Err large_input else answer_of_file read)) (λ why. why.status ≡ status.Words → ⊥)
other-unless true read = other status.TooLarge (λ e. omega (arith, e))
other-unless false read = other-file read

other-by : (asked : Option ℕ) (input : List ℕ) (why : Why) → why_in (answer_by asked input) ≡ Some why → why.status ≡ status.Words → asked ≡ None
other-by None input why answered is = refl
other-by (Some workers) input why answered is =
    absurd (subst (λ (some : Option Why). IfSome some (λ w. w.status ≡ status.Words → ⊥)) answered (other-unless (nat_lt most_bytes (length input)) (network_of input)) is)

pub words-told : (held freed : Telling) (call : Call) (told : Status) → HasReported held freed call told → told ≡ status.Words → workers_asked call.words ≡ None
words-told held freed call told reported is =
    let refused = subst (HasEnded (report_for held freed (workers_asked call.words) reported.input) call) is reported.ended in
    other-by (workers_asked call.words) reported.input (record { status = status.Words; line = refused.line }) refused.why refl

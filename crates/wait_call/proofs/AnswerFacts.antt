-- The answer by its cases.
use Rattle.std.specs.Prelude.{is_some}
use Rattle.std.proofs.Common.{◌≡◌, ℕ, true, ◌<◌, ◌≤◌, List, Option, Some, None, Result, Ok, Err, IfOk, IfErr, String, Global, IfSome, refl, sym, subst, ap, ◌∙◌, length, rules}
use Rattle.network_file.specs.Limits.{most_bytes}
use Rattle.network_file.specs.Network.{Network}
use Rattle.network_file.specs.Reading.{network_of}
use Rattle.network_file.specs.declared.fault.NetFault.{NetFault}
use Rattle.call_ending.specs.Refusing.{IsRefusalOf}
use Rattle.call_ending.specs.Why.{Why}
use Rattle.call_ending.specs.declared.refusal.Refusal.{Refusal}
use Rattle.call_ending.specs.declared.refusal.Refusal.TheVariants as refusal
use Rattle.call_beginning.specs.Input.{large_input}
use Rattle.call_beginning.specs.NetworkInput.{why_of_network}
use Rattle.call_beginning.specs.Words.{words_refused}
use Rattle.call_beginning.proofs.Inputs.{allowed, some_input}
use Rattle.network_run.specs.Telling.{Telling}
use Rattle.wait_call.specs.Answer.{answer_by, answer_of, answer_of_file, answer_to, why_in}
use Rattle.wait_call.specs.Telling.{IsReported}
use Rattle.wait_call.specs.Words.{workers_asked}

pub answer_to-too_large : (input : List ℕ) → most_bytes < length input → answer_to input ≡ Err large_input
answer_to-too_large input large = search rules

pub answer_to-fits : (input : List ℕ) → length input ≤ most_bytes → answer_to input ≡ answer_of_file (network_of input)
answer_to-fits input fits = search rules

-- why a file has no report
pub why_in-file : (read : Result Network NetFault) → why_in (answer_of_file read) ≡ why_of_network read (λ net. None)
why_in-file (Ok net) = refl
why_in-file (Err fault) = refl

pub answer_of-words : (words : List (String Global)) (input : List ℕ) → workers_asked words ≡ None → answer_of words input ≡ Err words_refused
answer_of-words words input refuses = ap (λ asked. answer_by asked input) refuses

pub answer_of-workers : (words : List (String Global)) (input : List ℕ) (workers : ℕ) → workers_asked words ≡ Some workers → answer_of words input ≡ answer_to input
answer_of-workers words input workers accepts = ap (λ asked. answer_by asked input) accepts

-- words that are refused
pub refused_words : (words : List (String Global)) (left : Option (List ℕ)) (ReadFailed : Type 0) (told : Refusal) → workers_asked words ≡ None → IsRefusalOf (Some words_refused) ⊥ told →
    (input : List ℕ) × IfSome left (λ bytes. input ≡ bytes) × IsRefusalOf (why_in (answer_of words input)) ReadFailed told
refused_words words left ReadFailed told none is =
    let some = some_input left in
    (some.0, some.1, subst (λ answer. IsRefusalOf (why_in answer) ReadFailed told) (sym (answer_of-words words some.0 none)) (allowed (Some words_refused) ReadFailed told is))

-- a read that can fail is one that words ask for
reading : (why : Option Why) (Asked Rose : Type 0) (told : Refusal) → Asked → IsRefusalOf why Rose told → IsRefusalOf why (Asked × Rose) told
reading why Asked Rose (refusal.Told by line) asked is = is
reading why Asked Rose refusal.ReadFault asked is = (asked, is)
reading why Asked Rose refusal.WriteFault asked is = absurd is
reading why Asked Rose refusal.NoMemory asked is = is

-- an input that is too long or can't be had
pub refused_input : (words : List (String Global)) (workers : ℕ) (left : Option (List ℕ)) (Rose : Type 0) (told : Refusal) → workers_asked words ≡ Some workers →
    (input : List ℕ) × IfSome left (λ bytes. input ≡ bytes) × IsRefusalOf (why_in (answer_to input)) Rose told →
    (input : List ℕ) × IfSome left (λ bytes. input ≡ bytes) × IsRefusalOf (why_in (answer_of words input)) ((is_some (workers_asked words) ≡ true) × Rose) told
refused_input words workers left Rose told accepts given = (
  given.0,
  given.1,
  subst (λ answer. IsRefusalOf (why_in answer) ((is_some (workers_asked words) ≡ true) × Rose) told) (sym (answer_of-workers words given.0 workers accepts))
      (reading (why_in (answer_to given.0)) (is_some (workers_asked words) ≡ true) Rose told (ap is_some accepts) given.2),
)

-- the report of an input is one that the words ask for
pub answered_text : {A : Type 0} (held freed : Telling) (items : A → List ℕ) (words : List (String Global)) (workers : ℕ) (left : Option (List ℕ)) (input : List ℕ) → workers_asked words ≡ Some workers →
    IfSome left (λ bytes. input ≡ bytes) → (result : Result A Refusal) → IfOk result (λ text. IsReported held freed (answer_to input) (items text)) →
    IfOk result (λ text. (input : List ℕ) × IfSome left (λ bytes. input ≡ bytes) × IsReported held freed (answer_of words input) (items text))
answered_text held freed items words workers left input accepts is (Ok text) given = (input, is, subst (λ answer. IsReported held freed answer (items text)) (sym (answer_of-workers words input workers accepts)) given)
answered_text held freed items words workers left input accepts is (Err told) given = tt

-- and so is a refusal
pub answered_refusal : {A : Type 0} (words : List (String Global)) (workers : ℕ) (left : Option (List ℕ)) (input : List ℕ) (ReadFailed : Type 0) → workers_asked words ≡ Some workers →
    IfSome left (λ bytes. input ≡ bytes) → (result : Result A Refusal) → IfErr result (IsRefusalOf (why_in (answer_to input)) ⊥) →
    IfErr result (λ told. (input : List ℕ) × IfSome left (λ bytes. input ≡ bytes) × IsRefusalOf (why_in (answer_of words input)) ReadFailed told)
answered_refusal words workers left input ReadFailed accepts is (Ok text) given = tt
answered_refusal words workers left input ReadFailed accepts is (Err told) given =
    (input, is, subst (λ answer. IsRefusalOf (why_in answer) ReadFailed told) (sym (answer_of-workers words input workers accepts)) (allowed _ ReadFailed told given))

-- The answer by its cases.
use Rattle.std.proofs.Common.{◌≡◌, ℕ, ◌≤◌, true, List, Option, Some, None, Result, Ok, Err, IfOk, IfErr, refl, subst, sym, length}
use Rattle.std.specs.Option.{option_or}
use Rattle.std.proofs.lemmas.Bool.{le-ltb}
use Rattle.command_words.specs.declared.request.Request.{Request}
use Rattle.call_ending.specs.Refusing.{IsRefusalOf}
use Rattle.call_ending.specs.Why.{Why}
use Rattle.call_ending.specs.declared.refusal.Refusal.{Refusal}
use Rattle.call_ending.specs.declared.refusal.Refusal.TheVariants as refusal
use Rattle.ctm_call.specs.Telling.{IsAnswered, IsToldBy}
use Rattle.ctm_call.specs.Answer.{IsTextBy, why_by, why_none}
use Rattle.call_beginning.specs.Input.{IsInputOf, asks_source, most_input, why_long}
use Rattle.call_beginning.specs.Task.{task_of}
use Rattle.call_beginning.specs.Words.{IsOfWords, words_refused}
use Rattle.call_beginning.proofs.Inputs.{allowed, some_input_of}
use Rattle.network_run.specs.Telling.{Telling}
use Rattle.network_run.specs.ToldShots.{TellingOfShots, TellingOfWatchers}

-- an input that isn't too long has no text only for a reason of its mode
pub why-fits : (request : Request) (input : List ℕ) → length input ≤ most_input request.mode → why_none (Some request) input ≡ why_by request.mode (task_of request input)
why-fits request input fits = rw (le-ltb (most_input request.mode) (length input) fits) refl

-- words that are refused, or for which memory was refused
pub refused_words : (asked : Option Request) (left : Option (List ℕ)) (ReadFailed : Type 0) (told : Refusal) → IsOfWords asked told →
    (input : List ℕ) × IsInputOf asked left input × IsRefusalOf (why_none asked input) ReadFailed told
refused_words None left ReadFailed told is = let some = some_input_of None left in (some.0, some.1, allowed (Some words_refused) ReadFailed told is)
refused_words (Some request) left ReadFailed told is = let some = some_input_of (Some request) left in (some.0, some.1, rw is tt)

-- a refusal by the first of two reasons
early : (why later : Option Why) (ReadFailed : Type 0) (told : Refusal) → IsRefusalOf why ReadFailed told → IsRefusalOf (option_or why later) ReadFailed told
early (Some why) later ReadFailed told is = is
early None later ReadFailed (refusal.Told by line) is = absurd cc
early None later ReadFailed refusal.ReadFault is = is
early None later ReadFailed refusal.WriteFault is = is
early None later ReadFailed refusal.NoMemory is = is

-- an input that is refused before its mode looks at it, or can't be had
pub refused_input : (asked : Option Request) (request : Request) (left : Option (List ℕ)) (told : Refusal) (Rose : Type 0) → asked ≡ Some request →
    (input : List ℕ) × IsInputOf (Some request) left input × IsRefusalOf (why_long request.mode input) ((asks_source (Some request) ≡ true) × Rose) told →
    (input : List ℕ) × IsInputOf asked left input × IsRefusalOf (why_none asked input) ((asks_source asked ≡ true) × Rose) told
refused_input asked request left told Rose is given =
    subst (λ asked. (input : List ℕ) × IsInputOf asked left input × IsRefusalOf (why_none asked input) ((asks_source asked ≡ true) × Rose) told) (sym is)
    (given.0, given.1, early (why_long request.mode given.0) (why_by request.mode (task_of request given.0)) _ told given.2)

-- a text of the mode is one of the answer
pub answered_text : {A : Type 0} (held freed : Telling) (watching : TellingOfWatchers) (watched : TellingOfShots) (items : A → List ℕ) (asked : Option Request) (request : Request) (left : Option (List ℕ)) (input : List ℕ) →
    asked ≡ Some request → IsInputOf (Some request) left input → length input ≤ most_input request.mode → (result : Result A Refusal) →
    IfOk result (λ text. (why_by request.mode (task_of request input) ≡ None) × IsTextBy request.mode (task_of request input) (items text)) →
    IfOk result (λ text. IsToldBy held freed watching watched request.mode (task_of request input) (items text)) →
    IfOk result (λ text. (input : List ℕ) × IsInputOf asked left input × IsAnswered held freed watching watched asked input (items text))
answered_text held freed watching watched items asked request left input is given fits (Ok text) answers told =
    subst (λ asked. (input : List ℕ) × IsInputOf asked left input × IsAnswered held freed watching watched asked input (items text)) (sym is)
    (input, given, ((rw (why-fits request input fits) answers.0, answers.1), told))
answered_text held freed watching watched items asked request left input is given fits (Err refusal) answers told = tt

-- a refusal of the mode is one of the answer
pub answered_refusal : {A : Type 0} (asked : Option Request) (request : Request) (left : Option (List ℕ)) (input : List ℕ) (ReadFailed : Type 0) →
    asked ≡ Some request → IsInputOf (Some request) left input → length input ≤ most_input request.mode → (result : Result A Refusal) →
    IfErr result (IsRefusalOf (why_by request.mode (task_of request input)) ⊥) →
    IfErr result (λ refusal. (input : List ℕ) × IsInputOf asked left input × IsRefusalOf (why_none asked input) ReadFailed refusal)
answered_refusal asked request left input ReadFailed is given fits (Ok text) refused = tt
answered_refusal asked request left input ReadFailed is given fits (Err told) refused =
    subst (λ asked. (input : List ℕ) × IsInputOf asked left input × IsRefusalOf (why_none asked input) ReadFailed told) (sym is)
    (input, given, subst (λ why. IsRefusalOf why ReadFailed told) (sym (why-fits request input fits)) (allowed _ ReadFailed told refused))

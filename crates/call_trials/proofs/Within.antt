-- What an observer was told who is told only of steps below a limit.
use Rattle.std.specs.Prelude.{IsOkAnd, IfSome, if◌then◌else◌}
use Rattle.std.proofs.Common.{◌≡◌, ℕ, ◌<◌, ◌≤◌, inl, inr, List, Option, Some, None, Result, Ok, Err, subst, arith}
use Rattle.std.proofs.lemmas.Bool.{cases_lt}
use Rattle.command_words.specs.declared.mode.Mode.{Mode}
use Rattle.command_words.specs.declared.mode.Mode.TheVariants.{Run}
use Rattle.command_words.specs.declared.request.Request.{Request}
use Rattle.network_file.specs.Network.{Network}
use Rattle.network_file.specs.Reading.{network_of}
use Rattle.network_file.specs.declared.fault.NetFault.{NetFault}
use Rattle.region_slots.specs.CutRun.{CutRun}
use Rattle.region_step.proofs.Steps.{zero_start-at}
use Rattle.network_run.specs.Telling.{HasTold, HasToldIn, Telling, zero_run}
use Rattle.network_run.specs.ToldShots.{TellingOfShots, TellingOfWatchers}
use Rattle.call_beginning.specs.Input.{IsInputOf, reads_source}
use Rattle.call_beginning.specs.Task.{task_of}
use Rattle.call_beginning.specs.Words.{requested}
use Rattle.call_ending.specs.Calls.{Call}
use Rattle.call_ending.specs.Ending.{HasEnded, IsDone}
use Rattle.call_ending.specs.declared.status.Status.{Status}
use Rattle.call_ending.specs.declared.status.Status.TheVariants.{Done}
use Rattle.ctm_call.specs.Ended.{HasAnswered, answer_for}
use Rattle.ctm_call.specs.Telling.{IsAnswered, IsToldBy}
use Rattle.call_trials.specs.Within.{RunsWithin}

-- it is told of no step from a limit on
abbrev pub IsBelow : (held : Telling) (most : ℕ) → Type 0
IsBelow held most = (run : CutRun) (r s : ℕ) → held run r s → s < most

-- a goal to which it was told of each step lies at the limit or below
goal-within : (held freed : Telling) (most : ℕ) (net : Network) (cut : List ℕ) (every goal : ℕ) → IsBelow held most → HasTold held freed (zero_run net cut every) goal → goal ≤ most
goal-within held freed most net cut every goal below told = elim (cases_lt most goal) [
  | inl past ↦ let own = (told 0 most (omega arith) (omega (arith, zero_start-at net cut 0)) past).0 in absurd (omega (arith, below _ 0 most own))
  | inr within ↦ within
]

-- one fact of what was read leads to another
read-both : (read : Result Network NetFault) (P Q : Network → Type 0) → ((net : Network) → P net → Q net) → IsOkAnd read P → IsOkAnd read Q
read-both (Ok net) P Q leads holds = leads net holds
read-both (Err fault) P Q leads holds = absurd holds

-- a request to run has what the source has left
given-run : (mode : Mode) (bytes input : List ℕ) (other : Option (List ℕ)) → mode ≡ Run → IfSome (if reads_source mode then Some bytes else other) (λ it. input ≡ it) → input ≡ bytes
given-run mode bytes input other is has = subst (λ m. IfSome (if reads_source m then Some bytes else other) (λ it. input ≡ it)) is has

-- the answer to a request to run what the source has left
answered-within : (held freed : Telling) (watching : TellingOfWatchers) (watched : TellingOfShots) (most : ℕ) (asked : Option Request) (bytes input text : List ℕ) → IsBelow held most →
    IsInputOf asked (Some bytes) input → IsAnswered held freed watching watched asked input text → RunsWithin most asked bytes
answered-within held freed watching watched most None bytes input text below is answered = tt
answered-within held freed watching watched most (Some request) bytes input text below is answered = λ mode.
    let given = given-run request.mode bytes input _ mode is in
    let told : IsToldBy held freed watching watched Run (task_of request input) text = subst (λ m. IsToldBy held freed watching watched m (task_of request input) text) mode answered.1 in
    subst (λ it. IsOkAnd (network_of it) (λ net. net.steps ≤ most)) given
    (read-both (network_of input) _ _ (λ net one. goal-within held freed most net one.cut request.every net.steps below one.told) told)

-- a call that is done
pub call-within : (held freed : Telling) (watching : TellingOfWatchers) (watched : TellingOfShots) (most : ℕ) (call : Call) (status : Status) (bytes : List ℕ) →
    IsBelow held most → HasAnswered held freed watching watched call status → call.source.before ≡ Some bytes → status ≡ Done →
    RunsWithin most (requested call.words) bytes
call-within held freed watching watched most call status bytes below answered left done =
    let asked = requested call.words in
    let ended : IsDone (answer_for held freed watching watched asked answered.input) call = subst (HasEnded (answer_for held freed watching watched asked answered.input) call) done answered.ended in
    answered-within held freed watching watched most asked bytes answered.input ended.text below
    (subst (λ before. IsInputOf asked before answered.input) left answered.is_input) ended.answers

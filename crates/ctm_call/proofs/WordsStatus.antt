-- Status Words is the answer to words that are refused alone.
use Rattle.std.proofs.Common.{◌≡◌, ◌⊎◌, ℕ, Bool, true, false, inl, inr, List, Option, Some, None, Result, Ok, Err, IfSome, refl, sym, subst, ap, ◌∙◌, if◌then◌else◌, [], ◌∷◌, ◌+◌, length, nat_lt, arith}
use Rattle.std.specs.Option.{option_or}
use Rattle.std.specs.Prelude.{◌&&◌, nat_le}
use Rattle.std.proofs.lemmas.Bool.{false≢true}
use Rattle.network_file.specs.Network.{Network}
use Rattle.network_file.specs.Reading.{network_of}
use Rattle.network_file.specs.declared.fault.NetFault.{NetFault}
use Rattle.command_words.specs.declared.mode.Mode.{Mode}
use Rattle.command_words.specs.declared.mode.Mode.TheVariants.{Run, Watch, Sample, Check, Choose, Convert, Cut, Recut, Save, Resume}
use Rattle.command_words.specs.declared.request.Request.{Request}
use Rattle.saved_run.specs.Content.{Content}
use Rattle.saved_run.specs.Loading.{cutting_in, start_in}
use Rattle.saved_run.specs.Reading.{content_of}
use Rattle.saved_run.specs.Startable.{can_start}
use Rattle.plan_choice.specs.Pieces.{candidates_in}
use Rattle.call_ending.specs.Calls.{Call}
use Rattle.call_ending.specs.Ending.{Answer, HasEnded}
use Rattle.call_ending.specs.Why.{Why}
use Rattle.call_ending.specs.Status.{status_number}
use Rattle.call_ending.specs.declared.status.Status.{Status}
use Rattle.call_ending.specs.declared.status.Status.TheVariants as status
use Rattle.ctm_call.specs.Answer.{why_by, why_none}
use Rattle.ctm_call.specs.Ended.{HasAnswered, answer_for}
use Rattle.workerless_modes.specs.ChooseMode.{choose_refused, plans_refused, why_of_candidate, why_of_candidates}
use Rattle.call_beginning.specs.Input.{large_input, most_input, why_long}
use Rattle.call_beginning.specs.NetworkInput.{why_of_network}
use Rattle.saved_modes.specs.ResumeMode.{why_by_content, why_by_cutting}
use Rattle.call_beginning.specs.Recording.{why_unrecorded}
use Rattle.call_beginning.specs.Task.{Task, task_of}
use Rattle.call_beginning.specs.Words.{requested}
use Rattle.run_modes.specs.WatchMode.{why_unshown}
use Rattle.network_run.specs.Telling.{Telling}
use Rattle.network_run.specs.ToldShots.{TellingOfShots, TellingOfWatchers}

-- a reason with another status
abbrev IsOther : Why → Type 0
IsOther why = why.status ≡ status.Words → ⊥

other : (told : Status) → (status_number told ≡ 2 → ⊥) → told ≡ status.Words → ⊥
other told not is = not (ap status_number is)

other-if : (yes : Bool) (why : Why) → IsOther why → IfSome (if yes then Some why else None) IsOther
other-if true why is = is
other-if false why is = tt

other-first : (one later : Option Why) → IfSome one IsOther → IfSome later IsOther → IfSome (option_or one later) IsOther
other-first (Some why) later is also = is
other-first None later is also = also

other-network : (read : Result Network NetFault) (why : Network → Option Why) → ((net : Network) → IfSome (why net) IsOther) → IfSome (why_of_network read why) IsOther
other-network (Ok net) why is = is net
other-network (Err fault) why is = other status.Network (λ e. omega (arith, e))

other-unrecorded : (net : Network) (every : ℕ) → IfSome (why_unrecorded net every) IsOther
other-unrecorded net every = other-if _ _ (other status.TooLarge (λ e. omega (arith, e)))

other-unshown : (net : Network) (shots : ℕ) → IfSome (why_unshown net shots) IsOther
other-unshown net shots = other-if _ _ (other status.TooLarge (λ e. omega (arith, e)))

other-unless : (yes : Bool) (why : Why) → IsOther why → IfSome (if yes then None else Some why) IsOther
other-unless true why is = tt
other-unless false why is = is

other-cutting : (content : Content) (net : Network) (cut : Option (List ℕ)) → IfSome (why_by_cutting content net cut) IsOther
other-cutting content net None = other status.Saved (λ e. omega (arith, e))
other-cutting content net (Some cut) = other-unless (can_start net cut (start_in content)) _ (other status.Saved (λ e. omega (arith, e)))

other-content : (content : Option Content) → IfSome (why_by_content content) IsOther
other-content None = other status.Saved (λ e. omega (arith, e))
other-content (Some content) =
    other-network (network_of content.network) (λ net. why_by_cutting content net (cutting_in net content)) (λ net. other-cutting content net (cutting_in net content))

other-candidate : (p : ℕ) (read : Result Network NetFault) (later : Option Why) → IfSome later IsOther → IfSome (why_of_candidate p read later) IsOther
other-candidate p (Ok net) later is = is
other-candidate p (Err fault) later is = other status.Network (λ e. omega (arith, e))

other-candidates : (p : ℕ) (files : List (List ℕ)) → IfSome (why_of_candidates p files) IsOther
other-candidates p [] = tt
other-candidates p (file ∷ files) = other-candidate p (network_of file) (why_of_candidates (p + 1) files) (other-candidates (p + 1) files)

other-plans : (counted : Bool) (plans : ℕ) (why : Option Why) → IfSome why IsOther → IfSome (if counted then why else Some (plans_refused plans)) IsOther
other-plans true plans why is = is
other-plans false plans why is = other status.Plans (λ e. omega (arith, e))

other-choose : (input : List ℕ) → IfSome (choose_refused input) IsOther
other-choose input =
    let plans = length (candidates_in input) in
    other-plans (nat_le 1 plans && nat_le plans 16) plans (why_of_candidates 0 (candidates_in input)) (other-candidates 0 (candidates_in input))

-- no mode refuses its input with that status
other-by : (mode : Mode) (task : Task) → IfSome (why_by mode task) IsOther
other-by Run task = other-network (network_of task.input) (λ net. why_unrecorded net task.request.every) (λ net. other-unrecorded net task.request.every)
other-by Watch task =
    other-network (network_of task.input) (λ net. option_or (why_unrecorded net task.request.every) (why_unshown net task.request.shots))
    (λ net. other-first (why_unrecorded net task.request.every) (why_unshown net task.request.shots) (other-unrecorded net task.request.every) (other-unshown net task.request.shots))
other-by Sample task = other-network (network_of task.input) (λ net. None) (λ net. tt)
other-by Choose task = other-choose task.input
other-by Recut task = other-network (network_of task.input) (λ net. None) (λ net. tt)
other-by Cut task = other-network (network_of task.input) (λ net. None) (λ net. tt)
other-by Check task = other-network (network_of task.input) (λ net. None) (λ net. tt)
other-by Convert task = other-network (network_of task.input) (λ net. None) (λ net. tt)
other-by Save task = other-network (network_of task.input) (λ net. None) (λ net. tt)
other-by Resume task = other-content (content_of task.input)

-- nor do the words that ask for something with this input
other-none : (request : Request) (input : List ℕ) → IfSome (why_none (Some request) input) IsOther
other-none request input =
    other-first (why_long request.mode input) (why_by request.mode (task_of request input))
    (other-if (nat_lt (most_input request.mode) (length input)) large_input (other status.TooLarge (λ e. omega (arith, e)))) (other-by request.mode (task_of request input))

-- a call that ends so has words that are refused
refused-none : (asked : Option Request) (input : List ℕ) (why : Why) → why_none asked input ≡ Some why → why.status ≡ status.Words → asked ≡ None
refused-none None input why is by = refl
refused-none (Some request) input why is by = absurd (subst (λ some. IfSome some IsOther) is (other-none request input) by)

pub words-refused : (held freed : Telling) (watching : TellingOfWatchers) (watched : TellingOfShots) (call : Call) (told : Status) → HasAnswered held freed watching watched call told → told ≡ status.Words → requested call.words ≡ None
words-refused held freed watching watched call told answered is =
    let refused = subst (λ told. HasEnded (answer_for held freed watching watched (requested call.words) answered.input) call told) is answered.ended in
    refused-none (requested call.words) answered.input _ refused.why refl

-- the status of an answer that is a refusal of words
abbrev IsOfWords : Option Why → Type 0
IsOfWords why = IfSome why (λ w. w.status ≡ status.Words)

of-words : (answered : Status) (why : Option Why) (line : List ℕ) → IsOfWords why → why ≡ Some (record { status = answered; line = line }) → answered ≡ status.Words
of-words answered why line of is = subst IsOfWords is of

-- and with such words it ends so, unless memory was refused
by-words : (answer : Answer) (call : Call) (told : Status) → ((text : List ℕ) → answer.IsText text → ⊥) → answer.is_read ≡ false → IsOfWords answer.why →
    HasEnded answer call told → (told ≡ status.Words) ⊎ (told ≡ status.NoMemory)
by-words answer call status.Done none unread of ended = absurd (none ended.text ended.answers)
by-words answer call status.Words none unread of ended = inl refl
by-words answer call status.Network none unread of ended = inl (of-words _ answer.why ended.line of ended.why)
by-words answer call status.TooLarge none unread of ended = inl (of-words _ answer.why ended.line of ended.why)
by-words answer call status.ReadFault none unread of ended = absurd (false≢true (sym unread ∙ ended.is_read))
by-words answer call status.WriteFault none unread of ended = absurd (none ended.part.text ended.part.answers)
by-words answer call status.NoMemory none unread of ended = inr refl
by-words answer call status.Saved none unread of ended = inl (of-words _ answer.why ended.line of ended.why)
by-words answer call status.Plans none unread of ended = inl (of-words _ answer.why ended.line of ended.why)

pub refused-words : (held freed : Telling) (watching : TellingOfWatchers) (watched : TellingOfShots) (call : Call) (told : Status) → HasAnswered held freed watching watched call told → requested call.words ≡ None →
    (told ≡ status.Words) ⊎ (told ≡ status.NoMemory)
refused-words held freed watching watched call told answered none =
    by-words (answer_for held freed watching watched None answered.input) call told (λ text is. is) refl refl
    (subst (λ asked. HasEnded (answer_for held freed watching watched asked answered.input) call told) none answered.ended)

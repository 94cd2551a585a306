-- What `save` wrote of an input, `resume` ends with the text that `run` has of that input.
use Rattle.std.specs.Option.{option_or}
use Rattle.std.specs.Prelude.{◌↔◌, if◌then◌else◌, nat_lt, IsOkAnd}
use Rattle.std.proofs.Common.{◌≡◌, ℕ, ◌≤◌, Bool, true, false, List, Option, Some, None, Result, Ok, Err, length, refl, sym, subst, ◌∙◌, arith}
use Rattle.std.proofs.lemmas.Bool.Decides.{nat_tests}
use Rattle.command_words.specs.Words.{IsInRange}
use Rattle.command_words.specs.declared.mode.Mode.{Mode}
use Rattle.command_words.specs.declared.mode.Mode.TheVariants.{Run, Save, Resume}
use Rattle.command_words.specs.declared.request.Request.{Request}
use Rattle.network_file.specs.Network.{Network}
use Rattle.network_file.specs.Reading.{network_of}
use Rattle.network_file.specs.declared.fault.NetFault.{NetFault}
use Rattle.call_ending.specs.Why.{Why}
use Rattle.call_beginning.specs.Input.{large_input, most_input}
use Rattle.call_beginning.specs.Task.{task_of}
use Rattle.network_file.proofs.SoundNetwork.{network_of-sound}
use Rattle.run_modes.proofs.PlainRun.{run_refused-plain, run_text-plain}
use Rattle.saved_modes.specs.ResumeMode.{resume_refused}
use Rattle.saved_modes.specs.SaveMode.{IsSavedRun, IsSaveText}
use Rattle.saved_modes.proofs.SavedRun.{saved-resumed}
use Rattle.ctm_call.specs.Answer.{IsTextBy, IsTextTo, why_by}
use Rattle.ctm_call.proofs.AnswerFacts.{why-fits}

-- an input against which nothing stands isn't too long
long-none : (long : Bool) (large : Why) (later : Option Why) → option_or (if long then Some large else None) later ≡ None → long ≡ false
long-none true large later none = absurd cc
long-none false large later none = refl

-- what stands against neither an input's length nor its mode
later-none : (long : Bool) (large : Why) (later : Option Why) → option_or (if long then Some large else None) later ≡ None → later ≡ None
later-none true large later none = absurd cc
later-none false large later none = none

-- nothing stands against a saved text that is answered, as `resumed-plain` asks
pub resumed-unrefused : (resume : Request) (saved text : List ℕ) → resume.mode ≡ Resume → IsTextTo resume saved text → resume_refused (task_of resume saved) ≡ None
resumed-unrefused resume saved text mode answers =
    let task = task_of resume saved in
    let none = later-none (nat_lt (most_input resume.mode) (length saved)) large_input (why_by resume.mode task) answers.0 in
    subst (λ m. why_by m task ≡ None) mode none

-- the texts that answer a request against which nothing stands are those of the mode
texts-by : (request : Request) (mode : Mode) (input text : List ℕ) → request.mode ≡ mode → length input ≤ most_input mode → why_by mode (task_of request input) ≡ None →
    IsTextTo request input text ↔ IsTextBy mode (task_of request input) text
texts-by request mode input text is fits none =
    let task = task_of request input in
    let own : why_by request.mode task ≡ None = subst (λ m. why_by m task ≡ None) (sym is) none in
    let nothing = why-fits request input (subst (λ m. length input ≤ most_input m) (sym is) fits) ∙ own in (
      λ answers. subst (λ m. IsTextBy m task text) is answers.1,
      λ by. (nothing, subst (λ m. IsTextBy m task text) (sym is) by),
    )

-- the network of an input of which something holds
network-with : (read : Result Network NetFault) (P : Network → Type 0) → IsOkAnd read P → (net : Network) × (read ≡ Ok net) × P net
network-with (Ok net) P holds = (net, refl, holds)
network-with (Err fault) P holds = absurd holds

-- the run that a saved text is of, whose input wasn't too long
pub record IsSavedOf (save : Request) (input saved : List ℕ) : Type 0 where
  pub fits : length input ≤ most_input Save
  pub net : Network
  pub reads : network_of input ≡ Ok net
  pub is : IsSavedRun net save input saved

pub saved-of : (save : Request) (input saved : List ℕ) → save.mode ≡ Save → IsTextTo save input saved → IsSavedOf save input saved
saved-of save input saved mode answers =
    let task = task_of save input in
    let found = long-none (nat_lt (most_input save.mode) (length input)) large_input (why_by save.mode task) answers.0 in
    let short : nat_lt (most_input Save) (length input) ≡ false = subst (λ m. nat_lt (most_input m) (length input) ≡ false) mode found in
    let text : IsSaveText task saved = subst (λ m. IsTextBy m task saved) mode answers.1 in
    let run = network-with (network_of input) (λ net. IsSavedRun net save input saved) text in
    record { fits = grind (arith, nat_tests, short); net = run.0; reads = run.1; is = run.2 }

-- whatever else the three are asked with, in range (`request_of-in_range`), where `run` records nothing, as `resume` does
pub resumed-as-run : (save resume run : Request) (input saved text : List ℕ) → IsInRange save → save.mode ≡ Save → resume.mode ≡ Resume → run.mode ≡ Run →
    run.every ≡ 0 → IsTextTo save input saved → IsTextTo resume saved text ↔ IsTextTo run input text
resumed-as-run save resume run input saved text in_range saves resumes runs never answers =
    let of = saved-of save input saved saves answers in
    let resumed = saved-resumed of.net save input saved (network_of-sound input of.net of.reads) in_range of.reads of.fits of.is in
    let end = texts-by resume Resume saved text resumes resumed.whole (resumed.taken resume) in
    let plain = texts-by run Run input text runs of.fits (run_refused-plain run input of.net of.reads never) in
    let same = run_text-plain run input of.net text of.reads never in (
      λ ends. plain.1 (same.1 ((resumed.answered resume text).0 (end.0 ends))),
      λ run. end.1 ((resumed.answered resume text).1 (same.0 (plain.0 run))),
    )

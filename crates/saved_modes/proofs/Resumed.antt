-- What comes of going on from a start that is true, as that of each saved text is that `save` writes.
use Rattle.std.specs.Prelude.{IsSomeAnd}
use Rattle.std.proofs.Common.{◌≡◌, ℕ, Bool, true, false, List, Option, Some, None, Result, Ok, ap, refl, subst, sym, ◌∙◌}
use Rattle.network_file.specs.Network.{Network}
use Rattle.network_file.specs.Reading.{network_of}
use Rattle.network_file.specs.Sound.{IsNetwork}
use Rattle.network_file.specs.declared.fault.NetFault.{NetFault}
use Rattle.region_cut.specs.LawfulSteps.{AreLawful}
use Rattle.region_step.specs.Start.{StartLists}
use Rattle.region_step.specs.Starting.{IsTrueStart}
use Rattle.saved_run.specs.Content.{Content}
use Rattle.saved_run.specs.Laws.{HasTrueStart}
use Rattle.saved_run.specs.Loading.{CanStart, cutting_in, start_in}
use Rattle.saved_run.specs.Reading.{content_of}
use Rattle.saved_run.specs.Startable.{can_start}
use Rattle.saved_run.proofs.Starting.{can_start-is}
use Rattle.delay_report.specs.FromStart.{report_from}
use Rattle.delay_report.specs.Report.{report_of, report_with}
use Rattle.delay_report.proofs.FromStart.{last_rows-true, report_with-none, state_note}
use Rattle.call_beginning.specs.NetworkInput.{why_of_network}
use Rattle.call_beginning.specs.Task.{Task}
use Rattle.network_file.proofs.SoundNetwork.{network_of-sound}
use Rattle.saved_modes.specs.ResumeMode.{IsGoneOn, IsResumeText, resume_refused, why_by_content, why_by_cutting}
use Rattle.saved_modes.proofs.Resuming.{why-unless}

-- from a true start with lawful steps a run comes to the report of the plain recurrences
pub report_from-true : (net : Network) (cut : List ℕ) (start : StartLists) → IsNetwork net → AreLawful net cut start.steps → IsTrueStart net cut start →
    report_from net cut start ≡ report_of net 0
unfolding report_of
report_from-true net cut start sound lawful true_start =
    sym (report_with-none net cut start (state_note net)) ∙ ap (report_with net 0 (state_note net)) (last_rows-true net cut start sound lawful true_start)

-- where nothing stands against a content, its regions can start
startable : (net : Network) (cut : List ℕ) (start : StartLists) (test : Bool) → can_start net cut start ≡ test → why-unless test ≡ None → CanStart net cut start
startable net cut start true is none = (can_start-is net cut start).0 is
startable net cut start false is none = absurd cc

unrefused : (content : Content) (text : List ℕ) (gone : IsGoneOn content text) → why_by_content (Some content) ≡ None → CanStart gone.net gone.cut (start_in content)
unrefused content text gone none =
    let by_cutting : why_by_content (Some content) ≡ why-unless (can_start gone.net gone.cut (start_in content)) =
    ap (λ read. why_of_network read (λ net. why_by_cutting content net (cutting_in net content))) gone.cut_so.network ∙ ap (why_by_cutting content gone.net) gone.cut_so.cutting in
    startable gone.net gone.cut (start_in content) (can_start gone.net gone.cut (start_in content)) refl (sym by_cutting ∙ none)

gone_on-plain : (found : Option Content) (text : List ℕ) → why_by_content found ≡ None → IsSomeAnd found (λ content. IsGoneOn content text) →
    IsSomeAnd found (λ content. (gone : IsGoneOn content text) × (IsTrueStart gone.net gone.cut (start_in content) → text ≡ report_of gone.net 0))
gone_on-plain None text none gone = absurd gone
gone_on-plain (Some content) text none gone = (
  gone,
  λ true_start. gone.text ∙
      report_from-true gone.net gone.cut (start_in content) (network_of-sound content.network gone.net gone.cut_so.network) (unrefused content text gone none).lawful true_start,
)

-- the text that `resume` has is the report of the plain recurrences where the start is true
pub resumed-plain : (task : Task) (text : List ℕ) → resume_refused task ≡ None → IsResumeText task text →
    IsSomeAnd (content_of task.input) (λ content. (gone : IsGoneOn content text) × (IsTrueStart gone.net gone.cut (start_in content) → text ≡ report_of gone.net 0))
resumed-plain task text none is = gone_on-plain (content_of task.input) text none is

same-ok : (answer : Result Network NetFault) (a b : Network) → answer ≡ Ok a → answer ≡ Ok b → a ≡ b
same-ok answer a b first second = cc

same-some : (found : Option (List ℕ)) (a b : List ℕ) → found ≡ Some a → found ≡ Some b → a ≡ b
same-some found a b first second = cc

-- a run that goes on from a true start comes to the report of the plain recurrences
pub resumed-report : (found : Option Content) (net : Network) (cut text : List ℕ) → IsSomeAnd found (λ content. HasTrueStart content net cut) → IsSomeAnd found (λ content. IsGoneOn content text) → text ≡ report_of net 0
resumed-report None net cut text begins gone = absurd begins
resumed-report (Some content) net cut text begins gone =
    let same_net : gone.net ≡ net = same-ok (network_of content.network) gone.net net gone.cut_so.network begins.cut_so.network in
    let found : cutting_in net content ≡ Some gone.cut = subst (λ n. cutting_in n content ≡ Some gone.cut) same_net gone.cut_so.cutting in
    let same_cut : gone.cut ≡ cut = same-some (cutting_in net content) gone.cut cut found begins.cut_so.cutting in
    gone.text ∙ ap (λ n. report_from n gone.cut (start_in content)) same_net ∙ ap (λ c. report_from net c (start_in content)) same_cut ∙
    report_from-true net cut (start_in content) (network_of-sound content.network net begins.cut_so.network) begins.can_start.lawful begins.true_start

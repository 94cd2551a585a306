-- What comes of going on from a text that was loaded.
use Rattle.std.specs.Prelude.{IsSomeAnd}
use Rattle.std.proofs.Common.{◌≡◌, ℕ, Bool, List, Option, Some, None, ap, subst, sym, ◌∙◌, if◌then◌else◌}
use Rattle.std.proofs.lemmas.Bool.{false_from_ne_true}
use Rattle.network_file.specs.Network.{Network}
use Rattle.region_cut.specs.Chart.{ChartLists, chart_of}
use Rattle.region_step.specs.Start.{StartLists}
use Rattle.saved_run.specs.Content.{Content}
use Rattle.saved_run.specs.Loading.{CanStart, GoesOn, IsCutSo, IsLoadFault, cutting_in, start_in}
use Rattle.saved_run.specs.Startable.{can_start}
use Rattle.saved_run.specs.declared.fault.LoadFault.{LoadFault}
use Rattle.saved_run.specs.declared.fault.LoadFault.TheVariants as fault
use Rattle.saved_run.proofs.Starting.{can_start-is}
use Rattle.delay_report.specs.FromStart.{report_from}
use Rattle.call_ending.specs.Why.{Why}
use Rattle.call_beginning.specs.NetworkInput.{why_of_network}
use Rattle.network_run.specs.Telling.{HasTold, Telling}
use Rattle.network_run.specs.ToldParts.{HasToldOn}
use Rattle.saved_modes.specs.ResumeMode.{IsGoneOn, why_by_content, why_by_cutting, why_of_fault}

-- what the test of a start gives
abbrev pub why-unless : (test : Bool) → Option Why
why-unless test = if test then None else Some (why_of_fault fault.Start)

-- nothing stands against a start that can be made
pub can-start : (net : Network) (cut : List ℕ) (start : StartLists) → CanStart net cut start → why-unless (can_start net cut start) ≡ None
can-start net cut start can = ap why-unless ((can_start-is net cut start).1 can)

-- the first fault of a text is told
pub fault-told : (found : Option Content) (told : LoadFault) → IsLoadFault found told → why_by_content found ≡ Some (why_of_fault told)
fault-told None told is = ap (λ (one : LoadFault). Some (why_of_fault one)) (sym is)
fault-told (Some content) fault.Spelling is = absurd is
fault-told (Some content) (fault.Network of_network) is = ap (λ read. why_of_network read (λ net. why_by_cutting content net (cutting_in net content))) is
fault-told (Some content) fault.Cutting is =
    let (net, read, none) = is in
    ap (λ read. why_of_network read (λ net. why_by_cutting content net (cutting_in net content))) read ∙ ap (why_by_cutting content net) none
fault-told (Some content) fault.Start is =
    let (net, cut, cut_so, cannot) = is in
    ap (λ read. why_of_network read (λ net. why_by_cutting content net (cutting_in net content))) cut_so.network ∙ ap (why_by_cutting content net) cut_so.cutting ∙
    ap why-unless (false_from_ne_true (can_start net cut (start_in content)) (λ can. cannot ((can_start-is net cut (start_in content)).0 can)))

-- nothing stands against a text that was loaded
pub why-none : (found : Option Content) (net : Network) (chart : ChartLists) (start : StartLists) → IsSomeAnd found (λ content. GoesOn content net chart start) → why_by_content found ≡ None
why-none None net chart start loaded = absurd loaded
why-none (Some content) net chart start loaded =
    ap (λ read. why_of_network read (λ net. why_by_cutting content net (cutting_in net content))) loaded.cut_so.network ∙ ap (why_by_cutting content net) loaded.cut_so.cutting ∙
    can-start net chart.cut (start_in content) (subst (CanStart net chart.cut) loaded.begins loaded.can_start)

pub loaded-charted : (found : Option Content) (net : Network) (chart : ChartLists) (start : StartLists) → IsSomeAnd found (λ content. GoesOn content net chart start) → chart ≡ chart_of net chart.cut
loaded-charted None net chart start loaded = absurd loaded
loaded-charted (Some content) net chart start loaded = loaded.charted

pub loaded-starts : (found : Option Content) (net : Network) (chart : ChartLists) (start : StartLists) → IsSomeAnd found (λ content. GoesOn content net chart start) → CanStart net chart.cut start
loaded-starts None net chart start loaded = absurd loaded
loaded-starts (Some content) net chart start loaded = loaded.can_start

-- its report is the text
pub gone-on : (found : Option Content) (net : Network) (chart : ChartLists) (start : StartLists) (text : List ℕ) → IsSomeAnd found (λ content. GoesOn content net chart start) → text ≡ report_from net chart.cut start →
    IsSomeAnd found (λ content. IsGoneOn content text)
gone-on None net chart start text loaded is = absurd loaded
gone-on (Some content) net chart start text loaded is = record {
  net = net;
  cut = chart.cut;
  cut_so = loaded.cut_so;
  text = is ∙ ap (report_from net chart.cut) loaded.begins;
}

-- and what was told of its run
pub told-on : (held freed : Telling) (found : Option Content) (net : Network) (chart : ChartLists) (start : StartLists) → IsSomeAnd found (λ content. GoesOn content net chart start) →
    HasTold held freed (record { net = net; cut = chart.cut; start = start; every = 0 }) net.steps → IsSomeAnd found (λ content. HasToldOn held freed (IsCutSo content) (start_in content))
told-on held freed None net chart start loaded told = absurd loaded
told-on held freed (Some content) net chart start loaded told = record {
  net = net;
  cut = chart.cut;
  is = loaded.cut_so;
  told = subst (λ (s : StartLists). HasTold held freed (record { net = net; cut = chart.cut; start = s; every = 0 }) net.steps) loaded.begins told;
}

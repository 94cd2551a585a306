-- A saved text that begins true is gone on with to the report of the plain recurrences, and to no other text.
use Rattle.std.specs.Prelude.{IsSomeAnd}
use Rattle.std.proofs.Common.{◌≡◌, ℕ, ◌≤◌, List, Option, Some, None, length, sym, ap, ◌∙◌, arith}
use Rattle.network_file.specs.Network.{Network}
use Rattle.network_file.specs.Sound.{IsNetwork}
use Rattle.saved_run.specs.Content.{Content}
use Rattle.saved_run.specs.Laws.{HasTrueStart}
use Rattle.saved_run.specs.Loading.{cutting_in, start_in}
use Rattle.saved_run.specs.Reading.{content_of}
use Rattle.saved_run.specs.SavedLength.{most_saved}
use Rattle.delay_report.specs.Report.{report_of}
use Rattle.call_beginning.specs.NetworkInput.{why_of_network}
use Rattle.saved_modes.specs.ResumedAs.{IsResumedAs}
use Rattle.saved_modes.specs.ResumeMode.{IsGoneOn, why_by_content, why_by_cutting}
use Rattle.saved_modes.proofs.Resumed.{report_from-true, resumed-report}
use Rattle.saved_modes.proofs.Resuming.{can-start}

-- nothing stands against a text that begins true
why-begun : (found : Option Content) (net : Network) (cut : List ℕ) → IsSomeAnd found (λ content. HasTrueStart content net cut) → why_by_content found ≡ None
why-begun None net cut begins = absurd begins
why-begun (Some content) net cut begins =
    ap (λ read. why_of_network read (λ net. why_by_cutting content net (cutting_in net content))) begins.cut_so.network ∙ ap (why_by_cutting content net) begins.cut_so.cutting ∙
    can-start net cut (start_in content) begins.can_start

-- and the report answers
report-gone_on : (found : Option Content) (net : Network) (cut text : List ℕ) → IsNetwork net → IsSomeAnd found (λ content. HasTrueStart content net cut) → text ≡ report_of net 0 → IsSomeAnd found (λ content. IsGoneOn content text)
report-gone_on None net cut text sound begins is = absurd begins
report-gone_on (Some content) net cut text sound begins is = record {
  net = net;
  cut = cut;
  cut_so = begins.cut_so;
  text = is ∙ sym (report_from-true net cut (start_in content) sound begins.can_start.lawful begins.true_start);
}

pub begins-resumed_as : (net : Network) (cut saved : List ℕ) → IsNetwork net → IsSomeAnd (content_of saved) (λ content. HasTrueStart content net cut) → length saved ≤ most_saved → IsResumedAs (report_of net 0) saved
begins-resumed_as net cut saved sound begins short = record {
  whole = omega (arith, short);
  taken = λ request. why-begun (content_of saved) net cut begins;
  answered = λ request text. (resumed-report (content_of saved) net cut text begins, report-gone_on (content_of saved) net cut text sound begins);
}

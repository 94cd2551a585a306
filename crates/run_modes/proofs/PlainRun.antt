-- A run that records nothing: no network is too much for it, and its text is the plain report.
use Rattle.std.specs.Prelude.{◌↔◌, if◌then◌else◌, nat_lt, IsOkAnd, codes}
use Rattle.std.proofs.Common.{◌≡◌, ℕ, ◌*◌, List, Some, None, Ok, length, sym, ap, subst, ◌∙◌, arith}
use Rattle.network_file.specs.Network.{Network}
use Rattle.network_file.specs.Reading.{network_of}
use Rattle.delay_report.specs.Report.{recorded_count, report_of}
use Rattle.delay_report.proofs.RecordedSteps.{recorded-none}
use Rattle.command_words.specs.declared.request.Request.{Request}
use Rattle.call_beginning.specs.NetworkInput.{why_of_network}
use Rattle.call_ending.specs.declared.status.Status.TheVariants as status
use Rattle.call_beginning.specs.Recording.{why_unrecorded}
use Rattle.call_beginning.specs.Task.{task_of}
use Rattle.run_modes.specs.RunMode.{IsReport, IsRunText, run_refused}
use Rattle.run_modes.proofs.Daganzo.{report-by}

recorded-nothing : (net : Network) → length net.cells * recorded_count net.steps 0 ≡ 0
recorded-nothing net =
    let none : length net.cells * 0 ≡ 0 = omega arith in
    ap (λ steps. length net.cells * length steps) (recorded-none net.steps 0 net.steps) ∙ none

pub run_refused-plain : (run : Request) (input : List ℕ) (net : Network) → network_of input ≡ Ok net → run.every ≡ 0 → run_refused (task_of run input) ≡ None
run_refused-plain run input net reads never =
    ap (λ read. why_of_network read (λ net. why_unrecorded net run.every)) reads ∙ ap (why_unrecorded net) never ∙
    ap (λ values. if nat_lt 4_000_000 values then Some (record { status = status.TooLarge; line = codes "ctm: too large: record\n" }) else None) (recorded-nothing net)

pub run_text-plain : (run : Request) (input : List ℕ) (net : Network) (text : List ℕ) → network_of input ≡ Ok net → run.every ≡ 0 → IsRunText (task_of run input) text ↔ (text ≡ report_of net 0)
run_text-plain run input net text reads never = (
  λ is. let report : IsReport net run.every text = subst (λ read. IsOkAnd read (λ net. IsReport net run.every text)) reads is in report.extended ∙ ap (report_of net) never,
  λ is. subst (λ read. IsOkAnd read (λ net. IsReport net run.every text)) (sym reads) (report-by net run.every text (is ∙ ap (report_of net) (sym never))),
)

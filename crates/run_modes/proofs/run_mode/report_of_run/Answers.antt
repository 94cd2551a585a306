use Rattle.std.specs.Prelude.{slice_index}
use Rattle.std.proofs.Common.{refl, ap, ◌∙◌}
use Rattle.std.proofs.lemmas.Result.{IfOk-weaker}
use Rattle.network_file.specs.Network.{Network}
use Rattle.region_step.specs.Setup.{SetupValue}
use Rattle.region_step.proofs.Steps.{zero_start-at}
use Rattle.delay_report.specs.Report.{report_of}
use Rattle.run_modes.proofs.Daganzo.{report-by}
use Rattle.run_modes.proofs.run_mode.report_of_run.Goals as goal

pub report-requires-clause-from_zero : goal.report-requires-clause-from_zero
report-requires-clause-from_zero g c = λ some q.
    ap (λ (setup : SetupValue). slice_index setup.start.steps q) c.in_ok-regions.ensures.setup ∙ zero_start-at c.in_ok-layout.layout.net c.in_ok-layout.layout.chart.cut q

pub returns-clause-text : goal.returns-clause-text
returns-clause-text g c =
    let plain = ap (λ (setup : SetupValue). report_of setup.net setup.every) c.in_ok-regions.ensures.setup ∙
    ap (λ (net : Network). report_of net c.from-every.result) c.in_ok-layout.ensures.network ∙ ap (report_of c.args.net.now) c.from-every.ensures in
    IfOk-weaker c.report.result _ _ (λ text told. report-by c.args.net.now c.args.request.every text.items (told c.in_ok-regions.ensures.true_start ∙ plain)) c.report.ensures.recurrences

pub returns-clause-told : goal.returns-clause-told
returns-clause-told g c = λ done. record { cut = c.in_ok-layout.layout.chart.cut; is = c.in_ok-layout.ensures.cutting; told = rw (c.in_ok-layout.ensures.network, c.from-every.ensures) at (c.in_ok-regions.ensures.told refl) }

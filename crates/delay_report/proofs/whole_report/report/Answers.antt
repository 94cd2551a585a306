use Rattle.std.proofs.Common.{ℕ, ap, arith, rules, subst, ◌∙◌}
use Rattle.network_file.specs.Sound.{IsNetwork}
use Rattle.flow_ledger.proofs.BooksLaws.{state-balance}
use Rattle.region_cut.specs.LawfulSteps.{AreLawful}
use Rattle.region_step.specs.Setup.{SetupValue}
use Rattle.delay_report.specs.FromStart.{grid_note, last_rows}
use Rattle.delay_report.specs.Report.{report_with}
use Rattle.delay_report.proofs.FromStart.{last_rows-true, report_with-none, report_with-true}
use Rattle.delay_report.proofs.whole_report.report.Goals as goal

pub returns-clause-text : goal.returns-clause-text
unfolding report_with
returns-clause-text c = search rules

pub returns-clause-unrecorded : goal.returns-clause-unrecorded
returns-clause-unrecorded c = λ never.
    let setup : SetupValue = c.args.regions.now.setup in
    let note = grid_note setup.net setup.chart.cut setup.start in
    returns-clause-text c ∙ ap (λ (every : ℕ). report_with setup.net every note (last_rows setup.net setup.chart.cut setup.start)) never ∙
    report_with-none setup.net setup.chart.cut setup.start note

pub returns-clause-recurrences : goal.returns-clause-recurrences
returns-clause-recurrences c = λ true_start.
    let setup : SetupValue = c.args.regions.now.setup in
    let sound = subst IsNetwork (c.net.view_is ∙ c.net-net.ensures.network ∙ c.layout.ensures.network ∙ ap (λ setup. setup.net) c.setup-setup.ensures.setup) c.net.invariant in
    let lawful = subst (λ (setup : SetupValue). AreLawful setup.net setup.chart.cut setup.start.steps) c.setup-setup.ensures.setup c.start-start.ensures.lawful in
    returns-clause-text c ∙ report_with-true setup sound lawful true_start c.requires.from_zero

pub returns-clause-balance : goal.returns-clause-balance
returns-clause-balance c = λ true_start.
    let setup : SetupValue = c.args.regions.now.setup in
    let sound = subst IsNetwork (c.net.view_is ∙ c.net-net.ensures.network ∙ c.layout.ensures.network ∙ ap (λ setup. setup.net) c.setup-setup.ensures.setup) c.net.invariant in
    let lawful = subst (λ (setup : SetupValue). AreLawful setup.net setup.chart.cut setup.start.steps) c.setup-setup.ensures.setup c.start-start.ensures.lawful in
    rw (last_rows-true setup.net setup.chart.cut setup.start sound lawful true_start) (state-balance setup.net setup.net.steps sound (omega arith))

use Rattle.std.specs.Prelude.{slice_index}
use Rattle.std.proofs.Common.{◌≡◌, ◌≤◌, ap, arith, refl, subst, sym, ◌∙◌}
use Rattle.std.proofs.lemmas.Result.{IfOk-weaker}
use Rattle.region_cut.specs.Cuttings.{region_count}
use Rattle.region_step.specs.Regions.{AreAt}
use Rattle.region_step.specs.Setup.{SetupValue}
use Rattle.region_slots.specs.Moments.{cut_run}
use Rattle.delay_report.specs.FromStart.{report_from}
use Rattle.network_run.specs.Telling.{HasTold, Telling}
use Rattle.saved_modes.proofs.resume_mode.report_on.Goals as goal

pub regions_from-requires-clause-before : goal.regions_from-requires-clause-before
regions_from-requires-clause-before g c = λ lifetimes outlive r within.
    let start = c.args.start in
    let lawful = c.requires.can_start.lawful in
    let count = ap (λ (setup : SetupValue). region_count setup.chart.cut) c.new-setup.ensures in
    let begun = ap (λ (setup : SetupValue). slice_index setup.start.steps r) c.new-setup.ensures in
    let in_time : slice_index start.steps r ≤ c.args.layout.net.steps = lawful.in_time r 0 (omega (arith, within, count, lawful.one_each)) in
    let last : c.net.inside.steps ≡ c.args.layout.net.steps = ap (λ net. net.steps) (c.net.view_is ∙ c.net-net.ensures.network) in
    omega (arith, in_time, last, begun)

pub report-requires : goal.report-requires
report-requires g c =
    let is = c.in_ok-regions.ensures.setup ∙ c.new-setup.ensures in
    let last : c.net.inside.steps ≡ c.args.layout.net.steps = ap (λ net. net.steps) (c.net.view_is ∙ c.net-net.ensures.network) in
    record {
      last = subst (AreAt c.in_ok-regions.regions) (last ∙ sym (ap (λ (setup : SetupValue). setup.net.steps) is)) c.in_ok-regions.ensures.at;
      from_zero = λ some. absurd (some (ap (λ (setup : SetupValue). setup.every) is));
    }

pub returns-clause-text : goal.returns-clause-text
returns-clause-text g c =
    let is = c.in_ok-regions.ensures.setup ∙ c.new-setup.ensures in
    IfOk-weaker c.report.result _ _ (λ text unrecorded.
    unrecorded (ap (λ (setup : SetupValue). setup.every) is) ∙ ap (λ (setup : SetupValue). report_from setup.net setup.chart.cut setup.start) is)
    c.report.ensures.unrecorded

pub returns-clause-told : goal.returns-clause-told
returns-clause-told g c = λ done.
    let held : Telling = g.W.Observer.told_held c.args.observer.now in
    let freed : Telling = g.W.Observer.told_freed c.args.observer.now in
    let last : c.net.inside.steps ≡ c.args.layout.net.steps = ap (λ net. net.steps) (c.net.view_is ∙ c.net-net.ensures.network) in
    subst (λ (setup : SetupValue). HasTold held freed (cut_run setup) c.args.layout.net.steps) c.new-setup.ensures
    (subst (HasTold held freed (cut_run c.new-setup.result)) last (c.in_ok-regions.ensures.told refl))

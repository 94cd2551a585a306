use Rattle.std.specs.Prelude.{slice_index}
use Rattle.std.proofs.Common.{◌≡◌, ◌++◌, List, ℕ, refl, ap, subst, sym, ◌∙◌}
use Rattle.network_file.specs.Network.{Network}
use Rattle.region_cut.specs.Chart.{ChartLists}
use Rattle.region_step.specs.Setup.{SetupValue, zero_setup}
use Rattle.region_step.specs.Starting.{IsTrueStart}
use Rattle.region_step.proofs.Steps.{zero_start-at}
use Rattle.region_slots.specs.Moments.{cut_run}
use Rattle.network_run.specs.Telling.{HasTold, Telling, zero_run}
use Rattle.network_run.specs.ToldShots.{AreToldShots, TellingOfShots, TellingOfWatchers}
use Rattle.delay_report.specs.Report.{report_of}
use Rattle.run_modes.proofs.watch_mode.shots_and_report.Goals as goal

pub report-requires-clause-from_zero : goal.report-requires-clause-from_zero
report-requires-clause-from_zero g c = λ some q.
    ap (λ (setup : SetupValue). slice_index setup.start.steps q) (c.in_ok-shots.ensures.setup ∙ c.in_ok-setup.ensures.setup) ∙ zero_start-at c.in_ok-layout.layout.net c.in_ok-layout.layout.chart.cut q

-- the setup of a layout of this network
setup-is : (setup : SetupValue) (net other : Network) (chart : ChartLists) (every asked : ℕ) → setup ≡ zero_setup (record { net = other; chart = chart }) every → other ≡ net → every ≡ asked → setup ≡ zero_setup (record { net = net; chart = chart }) asked
setup-is setup net other chart every asked is same as_asked =
    is ∙ ap (λ (n : Network). zero_setup (record { net = n; chart = chart }) every) same ∙ ap (zero_setup (record { net = net; chart = chart })) as_asked

pub returns-clause-told : goal.returns-clause-told
returns-clause-told g c =
    let net = c.args.net.now in
    let cut : List ℕ = c.in_ok-layout.layout.chart.cut in
    let held : Telling = g.W.Observer.told_held c.args.observer.now in
    let freed : Telling = g.W.Observer.told_freed c.args.observer.now in
    let watching : TellingOfWatchers = g.W.Observer.told_watching c.args.observer.now in
    let watched : TellingOfShots = g.W.Observer.told_watched c.args.observer.now in
    let true_start = subst (λ (setup : SetupValue). IsTrueStart setup.net setup.chart.cut setup.start) (sym c.in_ok-shots.ensures.setup) c.in_ok-setup.ensures.true_start in
    let plain = ap (λ (setup : SetupValue). report_of setup.net setup.every) (c.in_ok-shots.ensures.setup ∙ c.in_ok-setup.ensures.setup) ∙
    ap (λ (net : Network). report_of net c.from.result) c.in_ok-layout.ensures.network ∙ ap (report_of net) c.from.ensures in
    let report = c.deref.ensures.value ∙ c.in_ok-report.ensures.recurrences true_start ∙ plain in
    let same : c.in_ok-shots.shots.items ≡ c.in_ok-shots.field-0.shots.items = sym (ap (λ shots. shots.items) c.in_ok-shots.shots-is) in
    let is = setup-is c.in_ok-setup.setup net c.in_ok-layout.layout.net c.in_ok-layout.layout.chart c.from.result c.args.request.every c.in_ok-setup.ensures.setup c.in_ok-layout.ensures.network c.from.ensures in
    let told : HasTold held freed (zero_run net cut c.args.request.every) net.steps =
    subst (λ (setup : SetupValue). HasTold held freed (cut_run setup) setup.net.steps) is (c.in_ok-shots.ensures.told refl) in
    let shown : AreToldShots watching watched (zero_run net cut c.args.request.every) c.args.request.shots c.in_ok-shots.shots.items =
    subst (AreToldShots watching watched (zero_run net cut c.args.request.every) c.args.request.shots) (sym same)
    (subst (λ (setup : SetupValue). AreToldShots watching watched (cut_run setup) c.args.request.shots c.in_ok-shots.field-0.shots.items) is c.in_ok-shots.ensures.shots) in (
      record {
        cut = cut;
        cutting = c.in_ok-layout.ensures.cutting;
        shots = c.in_ok-shots.shots.items;
        are = shown.0;
        text = c.in_ok-extend_from_slice.ensures.items ∙ ap (λ (last : List ℕ). c.in_ok-shots.field-0.shots.items ++ last) report ∙
            ap (λ (first : List ℕ). first ++ report_of net c.args.request.every) (sym same);
      },
      told,
      shown.1,
    )

pub returns-clause-text : goal.returns-clause-text
returns-clause-text g c = let told = returns-clause-told g c in told.0

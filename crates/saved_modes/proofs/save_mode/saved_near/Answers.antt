use Rattle.std.proofs.Common.{◌≡◌, length, min, arith, ap, refl, subst, ◌∙◌}
use Rattle.network_file.specs.Network.{Network}
use Rattle.network_file.specs.Sound.{IsNetwork}
use Rattle.network_file.proofs.NetworkFacts.{few_cells}
use Rattle.region_cut.specs.Chart.{ChartLists}
use Rattle.region_step.specs.Setup.{SetupValue, zero_setup}
use Rattle.region_step.specs.Start.{zero_start}
use Rattle.snapshot.specs.Shots.{AreStepsBetween}
use Rattle.snapshot.specs.Snapshots.{IsSnapshot}
use Rattle.saved_run.specs.SavedText.{saved_text}
use Rattle.region_slots.specs.Moments.{cut_run}
use Rattle.network_run.specs.Near.{near_end}
use Rattle.network_run.specs.Telling.{HasTold, Telling, zero_run}
use Rattle.saved_modes.proofs.Saved.{shown-run}
use Rattle.saved_modes.proofs.save_mode.saved_near.Goals as goal

-- the setup of a layout of this network
setup-is : (setup : SetupValue) (net other : Network) (chart : ChartLists) → setup ≡ zero_setup (record { net = other; chart = chart }) 0 → other ≡ net → setup ≡ zero_setup (record { net = net; chart = chart }) 0
setup-is setup net other chart is same = is ∙ ap (λ (n : Network). zero_setup (record { net = n; chart = chart }) 0) same

pub save-requires-clause-few : goal.save-requires-clause-few
save-requires-clause-few g c =
    let used = ap (λ (chart : ChartLists). length chart.cut) (c.layout.ensures.chart ∙ ap (λ (s : SetupValue). s.chart) c.in_ok-setup.ensures.setup) in
    omega (arith, used, c.net-own.ensures.one_each ∙ ap (λ (n : Network). length n.cells) c.in_ok-layout.ensures.network, few_cells c.args.net.now (subst IsNetwork c.net.view_is c.net.invariant))

pub returns-clause-told : goal.returns-clause-told
returns-clause-told g c =
    let net : Network = c.args.net.now in
    let chart : ChartLists = c.in_ok-layout.layout.chart in
    let sound = subst IsNetwork c.net.view_is c.net.invariant in
    let one_each = c.net-own.ensures.one_each ∙ ap (λ (n : Network). length n.cells) c.in_ok-layout.ensures.network in
    let is = setup-is c.in_ok-setup.setup net c.in_ok-layout.layout.net chart c.in_ok-setup.ensures.setup c.in_ok-layout.ensures.network in
    let used = ap (λ (chart : ChartLists). chart.cut) (c.layout.ensures.chart ∙ ap (λ (s : SetupValue). s.chart) is) in
    let snapshot : IsSnapshot net chart.cut (zero_start net chart.cut) c.in_ok-room.room =
    subst (λ (s : SetupValue). IsSnapshot s.net s.chart.cut (zero_start s.net s.chart.cut) c.in_ok-room.room) is c.in_ok-room.ensures.snapshot in
    let stand = subst (λ (s : SetupValue). AreStepsBetween s.net s.chart.cut (min c.from-until.result s.net.steps) (near_end s.net c.from-until.result) c.in_ok-room.room.steps) is c.in_ok-room.ensures.near in
    let held : Telling = g.W.Observer.told_held c.args.observer.now in
    let freed : Telling = g.W.Observer.told_freed c.args.observer.now in
    let told : HasTold held freed (zero_run net chart.cut 0) (near_end net c.args.request.until) =
    subst (λ until. HasTold held freed (zero_run net chart.cut 0) (near_end net until)) c.from-until.ensures
    (subst (λ (s : SetupValue). HasTold held freed (cut_run s) (near_end s.net c.from-until.result)) is (c.in_ok-room.ensures.told refl)) in (
      record {
        cut = chart.cut;
        cutting = c.in_ok-layout.ensures.cutting;
        steps = c.in_ok-room.room.steps;
        stand = subst (λ until. AreStepsBetween net chart.cut (min until net.steps) (near_end net until) c.in_ok-room.room.steps) c.from-until.ensures stand;
        saved = (rw used at c.in_ok-text.ensures.text) ∙ ap saved_text (shown-run net chart.cut c.in_ok-room.room sound one_each snapshot c.args.input.now);
      },
      told,
    )

pub returns-clause-saved : goal.returns-clause-saved
returns-clause-saved g c = let told = returns-clause-told g c in told.0

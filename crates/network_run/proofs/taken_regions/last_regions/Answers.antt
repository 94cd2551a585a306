use Rattle.std.specs.Prelude.{slice_index}
use Rattle.std.proofs.Common.{◌≡◌, ap, subst, sym, ◌∙◌, arith}
use Rattle.region_step.specs.Regions.{AreAt}
use Rattle.region_step.specs.Setup.{SetupValue}
use Rattle.region_step.specs.Starting.{IsTrueStart}
use Rattle.region_step.proofs.Steps.{zero_start-at}
use Rattle.region_slots.specs.Moments.{cut_run}
use Rattle.network_run.specs.Telling.{HasTold, Telling}
use Rattle.network_run.proofs.taken_regions.last_regions.Goals as goal

pub regions_from-requires-clause-before : goal.regions_from-requires-clause-before
regions_from-requires-clause-before g c = λ lifetimes outlive r within.
    omega (arith, ap (λ (setup : SetupValue). slice_index setup.start.steps r) c.in_ok-setup.ensures.setup, zero_start-at c.args.layout.net c.args.layout.chart.cut r)

pub returns-clause-true_start : goal.returns-clause-true_start
returns-clause-true_start g c =
    subst (λ (setup : SetupValue). IsTrueStart setup.net setup.chart.cut setup.start) (sym c.in_ok-regions.ensures.setup) c.in_ok-setup.ensures.true_start

pub returns-clause-last : goal.returns-clause-last
returns-clause-last g c =
    let last : c.net.inside.steps ≡ c.in_ok-regions.regions.setup.net.steps = ap (λ net. net.steps) (c.net.view_is ∙ c.net-net.ensures.network ∙ c.layout.ensures.network) ∙ sym (ap (λ (setup : SetupValue). setup.net.steps) c.in_ok-regions.ensures.setup) in
    subst (AreAt c.in_ok-regions.regions) last c.in_ok-regions.ensures.at

pub returns-clause-told : goal.returns-clause-told
returns-clause-told g c = λ done.
    let held : Telling = g.W.Observer.told_held c.args.observer.now in
    let freed : Telling = g.W.Observer.told_freed c.args.observer.now in
    let last : c.net.inside.steps ≡ c.in_ok-setup.setup.net.steps = ap (λ net. net.steps) (c.net.view_is ∙ c.net-net.ensures.network ∙ c.layout.ensures.network) in
    subst (λ (setup : SetupValue). HasTold held freed (cut_run setup) setup.net.steps) c.in_ok-setup.ensures.setup
    (subst (HasTold held freed (cut_run c.in_ok-setup.setup)) last (c.in_ok-regions.ensures.told done))

use Rattle.std.specs.Prelude.{slice_index}
use Rattle.std.proofs.Common.{◌≡◌, ◌<◌, ℕ, [], ap, subst, sym, ◌∙◌, arith}
use Rattle.network_file.specs.Network.{Network}
use Rattle.region_cut.specs.Cuttings.{region_count}
use Rattle.region_step.specs.Regions.{AreAtLast, HaveCome}
use Rattle.region_step.specs.Setup.{SetupValue}
use Rattle.region_step.specs.Starting.{IsTrueStart}
use Rattle.region_step.proofs.Steps.{zero_start-at}
use Rattle.border_rows.specs.declared.view.Terms.{Terms}
use Rattle.border_rows.specs.declared.view.View.{View}
use Rattle.region_slots.specs.Moments.{AreTold, cut_run}
use Rattle.region_slots.specs.CutRun.{CutRun}
use Rattle.network_run.specs.Run.{HasLogged}
use Rattle.network_run.specs.Telling.{HasTold, Telling}
use Rattle.network_run.proofs.Ending.{all-at}
use Rattle.network_run.proofs.Told.{logged-ended, told-logged}
use Rattle.wait_call.proofs.waiting_run.last_regions.Goals as goal

pub new-requires : goal.new-requires
new-requires g c =
    subst (λ (t : Terms). HaveCome t.setup.now c.close-steps.result.steps.items c.close-steps.result.regions.items) c.in_ok-field.ensures.terms c.close-steps.ensures.come

pub returns-clause-true_start : goal.returns-clause-true_start
returns-clause-true_start g c =
    subst (λ (setup : SetupValue). IsTrueStart setup.net setup.chart.cut setup.start) (sym (ap (λ regions. regions.setup) c.new.ensures)) c.in_ok-setup.ensures.true_start

pub returns-clause-last : goal.returns-clause-last
returns-clause-last g c =
    let setup : SetupValue = c.in_ok-setup.setup in
    let is = c.in_ok-setup.ensures.setup in
    let same = ap (λ (t : Terms). t.setup.now) c.in_ok-field.ensures.terms in
    let last : c.net.inside.steps ≡ setup.net.steps = ap (λ (n : Network). n.steps) (c.net.view_is ∙ c.net-net.ensures.network) ∙ sym (ap (λ (s : SetupValue). s.net.steps) is) in
    let count : region_count c.in_ok-field.field.terms.setup.now.chart.cut ≡ region_count setup.chart.cut = ap (λ (s : SetupValue). region_count s.chart.cut) same in
    let closed = c.close-steps.ensures in
    subst AreAtLast (sym c.new.ensures)
    (all-at setup.chart.cut c.close-steps.result.steps.items setup.net.steps (closed.come.one_each ∙ count)
    (λ r there. let within : r < region_count c.in_ok-field.field.terms.setup.now.chart.cut = omega (arith, there, count) in omega (arith, last, c.take_to_last.ensures.seen r within, closed.later r within))
    (λ r there. omega (
      arith,
      last,
      closed.reached r (omega (arith, there, count)),
      ap (λ (s : SetupValue). slice_index s.start.steps r) (same ∙ is),
      zero_start-at c.args.layout.net c.args.layout.chart.cut r,
      c.take_to_last.ensures.reach,
    )))

pub returns-clause-told : goal.returns-clause-told
returns-clause-told g c = λ done.
    let held : Telling = g.W.Observer.told_held c.args.observer.now in
    let freed : Telling = g.W.Observer.told_freed c.args.observer.now in
    let terms : Terms = c.in_ok-field.field.terms in
    let run : CutRun = cut_run terms.setup.now in
    let last : ℕ = c.net.inside.steps in
    let log = c.take_to_last.new.pass.knows.log in
    let same = ap (λ (t : Terms). t.setup.now) c.in_ok-field.ensures.terms ∙ c.in_ok-setup.ensures.setup in
    let steps : last ≡ c.args.layout.net.steps = ap (λ (n : Network). n.steps) (c.net.view_is ∙ c.net-net.ensures.network) in
    let told : AreTold (held run) (freed run) [] log =
    subst (λ own. AreTold (held run) (freed run) own log) (ap (λ (v : View). v.log) c.in_ok-field.ensures.knows) c.take_to_last.ensures.told in
    let logged : HasLogged (region_count run.cut) run.start.steps last log =
    logged-ended run.start (region_count run.cut) c.close-steps.result.steps.items log last c.close-steps.ensures.logged
    (λ r there. omega (arith, c.take_to_last.ensures.seen r there, c.close-steps.ensures.later r there)) in
    rw steps at (subst (λ (s : SetupValue). HasTold held freed (cut_run s) last) same (told-logged held freed run last log logged told))

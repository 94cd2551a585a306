use Rattle.std.specs.Prelude.{slice_index, replicate}
use Rattle.std.proofs.Common.{◌≡◌, ℕ, [], refl, ap, subst, sym, ◌∙◌, arith}
use Rattle.region_cut.specs.Cuttings.{region_count}
use Rattle.region_step.specs.Regions.{AreAtLast, HaveCome}
use Rattle.region_step.specs.Start.{StartLists}
use Rattle.region_step.proofs.Steps.{zero_start-at}
use Rattle.border_rows.specs.declared.view.Terms.{Terms}
use Rattle.border_rows.specs.declared.view.View.{View}
use Rattle.region_slots.specs.Moments.{AreTold, cut_run}
use Rattle.network_run.specs.Telling.{HasTold, Telling}
use Rattle.network_run.specs.ToldShots.{AreToldShots}
use Rattle.network_run.proofs.Told.{told-logged}
use Rattle.network_run.proofs.watched_run.watched_regions.Goals as goal

pub new-requires-2 : goal.new-requires-2
new-requires-2 g c =
    let same = c.in_ok-take_shots.ensures.terms refl ∙ c.in_ok-run.ensures.terms in
    subst (λ (t : Terms). HaveCome t.setup.now c.close-steps.result.steps.items c.close-steps.result.regions.items) same c.close-steps.ensures.come

pub returns-clause-last : goal.returns-clause-last
returns-clause-last g c =
    let taken = c.in_ok-take_shots.ensures in
    let last : ℕ = c.args.setup.net.steps in
    let same = taken.terms refl ∙ c.in_ok-run.ensures.terms in
    let count : region_count c.take_shots.new.self.terms.setup.now.chart.cut ≡ region_count c.args.setup.chart.cut = ap (λ (t : Terms). region_count t.setup.now.chart.cut) same in
    let zero : (r : ℕ) → slice_index c.take_shots.new.self.terms.setup.now.start.steps r ≡ 0 =
    λ r. ap (λ (t : Terms). slice_index t.setup.now.start.steps r) same ∙ ap (λ (start : StartLists). slice_index start.steps r) c.requires.zero ∙ zero_start-at c.args.setup.net c.args.setup.chart.cut r in
    let chart = ap (λ chart. region_count chart.cut) c.layout-2.ensures.chart in
    let steps = ap (λ net. net.steps) c.layout-2.ensures.network in
    let at : c.close-steps.result.steps.items ≡ replicate (region_count c.args.setup.chart.cut) last =
    subst (λ n. c.close-steps.result.steps.items ≡ replicate n last) count
    (c.close-steps.ensures.steps last (λ r there. omega (arith, taken.last refl r (omega (arith, there, count, chart)), steps)) (omega (arith, taken.reach refl, steps)) (λ r there. omega (arith, zero r))) in
    subst AreAtLast (sym c.new-2.ensures) at

pub returns-clause-told : goal.returns-clause-told
returns-clause-told g c = λ done.
    let held : Telling = g.W.Observer.told_held c.args.observer.now in
    let freed : Telling = g.W.Observer.told_freed c.args.observer.now in
    let taken = c.in_ok-take_shots.ensures in
    let last : ℕ = c.args.setup.net.steps in
    let terms : Terms = c.take_shots.new.self.terms in
    let log = c.take_shots.new.self.knows.log in
    let same = taken.terms refl ∙ c.in_ok-run.ensures.terms in
    let count : region_count terms.setup.now.chart.cut ≡ region_count c.args.setup.chart.cut = ap (λ (t : Terms). region_count t.setup.now.chart.cut) same in
    let chart = ap (λ chart. region_count chart.cut) c.layout-2.ensures.chart in
    let steps = ap (λ net. net.steps) c.layout-2.ensures.network in
    let told : AreTold (held (cut_run terms.setup.now)) (freed (cut_run terms.setup.now)) [] log =
    subst (λ own. AreTold (held (cut_run terms.setup.now)) (freed (cut_run terms.setup.now)) own log) (ap (λ (v : View). v.log) c.in_ok-run.ensures.knows)
    (subst (λ (t : Terms). AreTold (held (cut_run t.setup.now)) (freed (cut_run t.setup.now)) c.in_ok-run.run'.knows.log log) (sym (taken.terms refl)) (taken.told refl)) in
    subst (λ (t : Terms). HasTold held freed (cut_run t.setup.now) last) same
    (told-logged held freed (cut_run terms.setup.now) last log (c.close-steps.ensures.logged last (λ r there. omega (arith, taken.last refl r (omega (arith, there, count, chart)), steps))) told)

pub returns-clause-shots : goal.returns-clause-shots
returns-clause-shots g c =
    subst (λ (t : Terms). AreToldShots (g.W.Observer.told_watching c.args.observer.now) (g.W.Observer.told_watched c.args.observer.now) (cut_run t.setup.now) c.args.shots c.take_shots.new.text.items) c.in_ok-run.ensures.terms (c.in_ok-take_shots.ensures.shots refl)

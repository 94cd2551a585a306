use Rattle.std.specs.Prelude.{slice_index, replicate}
use Rattle.std.proofs.Common.{◌≡◌, [], ap, subst, sym, ◌∙◌, arith}
use Rattle.region_cut.specs.Cuttings.{region_count}
use Rattle.region_step.specs.Regions.{AreAt, HaveCome, RegionsValue}
use Rattle.border_rows.specs.declared.view.Terms.{Terms}
use Rattle.border_rows.specs.declared.view.View.{View}
use Rattle.region_slots.specs.Moments.{AreTold, cut_run}
use Rattle.network_run.specs.Telling.{HasTold, Telling}
use Rattle.network_run.proofs.Told.{told-logged}
use Rattle.network_run.proofs.taken_regions.regions_from.Goals as goal

pub new-requires : goal.new-requires
new-requires g c =
    let same = c.take_to.ensures.terms ∙ c.in_ok-run.ensures.terms in
    subst (λ (t : Terms). HaveCome t.setup.now c.close-steps.result.steps.items c.close-steps.result.regions.items) same c.close-steps.ensures.come

pub returns-clause-at : goal.returns-clause-at
returns-clause-at g c =
    let same = c.take_to.ensures.terms ∙ c.in_ok-run.ensures.terms in
    let first : region_count c.take_to.new.self.terms.setup.now.chart.cut ≡ region_count c.in_ok-run.run'.terms.setup.now.chart.cut = ap (λ (t : Terms). region_count t.setup.now.chart.cut) c.take_to.ensures.terms in
    let count : region_count c.take_to.new.self.terms.setup.now.chart.cut ≡ region_count c.args.setup.chart.cut = ap (λ (t : Terms). region_count t.setup.now.chart.cut) same in
    let at : c.close-steps.result.steps.items ≡ replicate (region_count c.args.setup.chart.cut) c.args.goal =
    subst (λ n. c.close-steps.result.steps.items ≡ replicate n c.args.goal) count
    (c.close-steps.ensures.steps c.args.goal (λ r there. c.take_to.ensures.done r (omega (arith, there, first))) c.take_to.ensures.reach
    (λ r there. omega (arith, ap (λ (t : Terms). slice_index t.setup.now.start.steps r) same, c.requires.before r (omega (arith, there, count))))) in
    subst (λ (regions : RegionsValue). AreAt regions c.args.goal) (sym c.new.ensures) at

pub returns-clause-told : goal.returns-clause-told
returns-clause-told g c = λ done.
    let held : Telling = g.W.Observer.told_held c.args.observer.now in
    let freed : Telling = g.W.Observer.told_freed c.args.observer.now in
    let terms : Terms = c.take_to.new.self.terms in
    let same = c.take_to.ensures.terms ∙ c.in_ok-run.ensures.terms in
    let first : region_count terms.setup.now.chart.cut ≡ region_count c.in_ok-run.run'.terms.setup.now.chart.cut = ap (λ (t : Terms). region_count t.setup.now.chart.cut) c.take_to.ensures.terms in
    let log = c.take_to.new.self.knows.log in
    let told : AreTold (held (cut_run terms.setup.now)) (freed (cut_run terms.setup.now)) [] log =
    subst (λ own. AreTold (held (cut_run terms.setup.now)) (freed (cut_run terms.setup.now)) own log) (ap (λ (v : View). v.log) c.in_ok-run.ensures.knows)
    (subst (λ (t : Terms). AreTold (held (cut_run t.setup.now)) (freed (cut_run t.setup.now)) c.in_ok-run.run'.knows.log log) (sym c.take_to.ensures.terms) c.take_to.ensures.told) in
    subst (λ (t : Terms). HasTold held freed (cut_run t.setup.now) c.args.goal) same
    (told-logged held freed (cut_run terms.setup.now) c.args.goal log (c.close-steps.ensures.logged c.args.goal (λ r there. c.take_to.ensures.done r (omega (arith, there, first)))) told)

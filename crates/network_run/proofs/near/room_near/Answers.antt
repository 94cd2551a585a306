use Rattle.std.proofs.Common.{◌≡◌, ℕ, [], ap, arith, subst, sym, ◌∙◌}
use Rattle.region_cut.specs.Cuttings.{region_count}
use Rattle.border_rows.specs.declared.view.Terms.{Terms}
use Rattle.border_rows.specs.declared.view.View.{View}
use Rattle.region_slots.specs.Moments.{AreTold, cut_run}
use Rattle.network_run.specs.Near.{near_end}
use Rattle.network_run.specs.Telling.{HasTold, Telling}
use Rattle.network_run.proofs.Told.{told-logged}
use Rattle.network_run.proofs.near.room_near.Goals as goal

pub returns-clause-near : goal.returns-clause-near
returns-clause-near g c =
    let same : c.in_ok-run.run'.terms.setup.now.chart.cut ≡ c.args.setup.now.chart.cut = ap (λ (t : Terms). t.setup.now.chart.cut) c.in_ok-run.ensures.terms in
    let steps : c.net.inside.steps ≡ c.args.setup.now.net.steps = ap (λ n. n.steps) (c.net.view_is ∙ c.net-net.ensures.network ∙ c.layout-layout.ensures.network) in
    let near = rw (same, c.layout-layout.ensures.network) at c.show_near.ensures.near in
    record {
      lawful = near.lawful;
      between = λ r there.
          let between = near.between r there in
          (omega (arith, between.0, c.min.ensures, steps), omega (arith, between.1, c.min.ensures, steps));
    }

pub returns-clause-told : goal.returns-clause-told
returns-clause-told g c = λ done.
    let held : Telling = g.W.Observer.told_held c.args.observer.now in
    let freed : Telling = g.W.Observer.told_freed c.args.observer.now in
    let terms : Terms = c.show_near.new.self.terms in
    let log = c.show_near.new.self.knows.log in
    let first : region_count terms.setup.now.chart.cut ≡ region_count c.in_ok-run.run'.terms.setup.now.chart.cut = ap (λ (t : Terms). region_count t.setup.now.chart.cut) c.show_near.ensures.terms in
    let told : AreTold (held (cut_run terms.setup.now)) (freed (cut_run terms.setup.now)) [] log =
    subst (λ own. AreTold (held (cut_run terms.setup.now)) (freed (cut_run terms.setup.now)) own log) (ap (λ (v : View). v.log) c.in_ok-run.ensures.knows)
    (subst (λ (t : Terms). AreTold (held (cut_run t.setup.now)) (freed (cut_run t.setup.now)) c.in_ok-run.run'.knows.log log) (sym c.show_near.ensures.terms) c.show_near.ensures.told) in
    let end : ℕ = near_end c.args.setup.now.net c.min.result in
    let done = rw c.layout-layout.ensures.network at c.show_near.ensures.done in
    let came : HasTold held freed (cut_run terms.setup.now) end =
    told-logged held freed (cut_run terms.setup.now) end log (c.close-closed.ensures.logged end (λ r there. done r (omega (arith, there, first)))) told in
    let steps : c.net.inside.steps ≡ c.args.setup.now.net.steps = ap (λ n. n.steps) (c.net.view_is ∙ c.net-net.ensures.network ∙ c.layout-layout.ensures.network) in
    let run : HasTold held freed (cut_run c.args.setup.now) end =
    subst (λ (t : Terms). HasTold held freed (cut_run t.setup.now) end) (c.show_near.ensures.terms ∙ c.in_ok-run.ensures.terms) came in
    λ r s within started below. run r s within started (omega (arith, below, c.min.ensures, steps))

use Rattle.std.proofs.Common.{◌+◌, ℕ, sym, subst, ◌∙◌, arith}
use Rattle.border_rows.specs.declared.view.Terms.{Terms}
use Rattle.border_rows.specs.declared.view.View.{View}
use Rattle.region_slots.specs.Moments.{cut_run}
use Rattle.region_slots.proofs.Observed.{told-more, told-turn}
use Rattle.parked_crew.specs.Sweeping.{HasSwept}
use Rattle.parked_crew.specs.declared.swept.Swept.{Swept}
use Rattle.parked_crew.proofs.Sweeps.{swept-more}
use Rattle.parked_crew.proofs.sweep.sweep.Goals as goal

pub loop-region-preserved : goal.loop-region-preserved
loop-region-preserved g c =
    let terms : Terms = c.args.field.now.terms in
    let old : View = c.args.pass.now.knows in
    let view : View = c.loop-region.pass.knows in
    let new : View = c.turn-turn.new.pass.knows in
    let came = c.turn-turn.ensures in
    let held : ℕ → ℕ → Type 0 = g.W.Observer.told_held c.args.observer.now (cut_run c.args.field.now.terms.setup.now) in
    let freed : ℕ → ℕ → Type 0 = g.W.Observer.told_freed c.args.observer.now (cut_run c.args.field.now.terms.setup.now) in
    let inv = c.loop-region.invariant in (
      came.belongs.0,
      came.belongs.1 ∙ inv.1,
      subst (λ (swept : Swept). HasSwept (c.loop-region.region + 1) c.args.goal old new swept) (sym c.count.ensures)
          (swept-more terms old view new c.args.goal c.loop-region.region c.loop-region.swept c.turn-turn.result (omega (arith, c.loop-region-test.true, c.regions-region-end.ensures))
          inv.0.counts inv.2 came.keeps came.held came.ended came.behind came.moved),
      told-more held freed old.log view.log new.log inv.3
          (told-turn held freed terms view new c.args.goal c.loop-region.region c.turn-turn.result came.held came.ended came.behind came.moved came.told_moved),
    )

use Rattle.std.proofs.Common.{◌+◌, ℕ, refl, ap, sym, subst, ◌∙◌, arith}
use Rattle.border_rows.specs.declared.view.Terms.{Terms}
use Rattle.border_rows.specs.declared.view.View.{View}
use Rattle.region_slots.specs.Moments.{cut_run}
use Rattle.worker_claim.specs.Turns.{HasTurned, counted, none}
use Rattle.worker_claim.specs.declared.driven.Driven.{Driven}
use Rattle.worker_claim.proofs.Rounds.{order-more, order-none}
use Rattle.region_slots.proofs.Observed.{told-more, told-none, told-turn}
use Rattle.worker_claim.proofs.Turning.{counted-added, counted-all, turned-more, turned-none, turned-one}
use Rattle.worker_claim.proofs.one_sweep.turns.Goals as goal

pub loop-region-preserved : goal.loop-region-preserved
loop-region-preserved g c =
    let terms : Terms = c.args.field.now.terms in
    let old : View = c.loop-region.pass.knows in
    let new : View = c.turn-turn.new.pass.knows in
    let came = c.turn-turn.ensures in
    let held : ℕ → ℕ → Type 0 = g.W.Observer.told_held c.args.observer.now (cut_run c.args.field.now.terms.setup.now) in
    let freed : ℕ → ℕ → Type 0 = g.W.Observer.told_freed c.args.observer.now (cut_run c.args.field.now.terms.setup.now) in
    let one : HasTurned terms old new c.loop-region.region (c.loop-region.region + 1) c.args.goal (counted none c.turn-turn.result) =
    turned-one terms old new c.args.goal c.loop-region.region c.turn-turn.result (omega (arith, c.loop-region-test.true, c.requires.there)) c.loop-region.invariant.0.counts came.keeps came.held came.never_whole came.ended came.behind came.moved in (
      came.belongs.0,
      came.belongs.1 ∙ c.loop-region.invariant.1,
      subst (λ (d : Driven). HasTurned terms c.args.pass.now.knows new c.args.from (c.loop-region.region + 1) c.args.goal d) (sym c.count.ensures)
          (turned-more terms c.args.pass.now.knows old new c.args.from c.loop-region.region (c.loop-region.region + 1) c.args.goal c.loop-region.driven (counted none c.turn-turn.result)
          (counted c.loop-region.driven c.turn-turn.result) (counted-added c.loop-region.driven c.turn-turn.result) c.loop-region.invariant.2 one),
      ap (λ (d : Driven). d.all) c.count.ensures ∙ counted-all c.loop-region.driven c.turn-turn.result ∙ c.loop-region.invariant.3,
      order-more c.args.pass.now.knows.tried old.tried new.tried c.args.from c.loop-region.region (omega (arith, c.loop-region.invariant.2.turns)) c.loop-region.invariant.4 came.tried,
      told-more held freed c.args.pass.now.knows.log old.log new.log c.loop-region.invariant.5
          (told-turn held freed terms old new c.args.goal c.loop-region.region c.turn-turn.result came.held came.ended came.behind came.moved came.told_moved),
    )

pub loop-region-init : goal.loop-region-init
loop-region-init g c = (
  c.requires.belongs,
  refl,
  subst (λ (d : Driven). HasTurned c.args.field.now.terms c.args.pass.now.knows c.args.pass.now.knows c.args.from c.args.from c.args.goal d) (sym c.none-driven.ensures)
      (turned-none c.args.field.now.terms c.args.pass.now.knows c.args.from c.args.goal),
  ap (λ (d : Driven). d.all) c.none-driven.ensures,
  order-none c.args.pass.now.knows.tried c.args.from,
  told-none (g.W.Observer.told_held c.args.observer.now (cut_run c.args.field.now.terms.setup.now)) (g.W.Observer.told_freed c.args.observer.now (cut_run c.args.field.now.terms.setup.now)) c.args.pass.now.knows.log,
)

use Rattle.std.proofs.Common.{◌+◌, refl, sym, subst, ◌∙◌, arith}
use Rattle.std.proofs.lemmas.List.{append-nil}
use Rattle.std.proofs.lemmas.Nat.{row_fits}
use Rattle.region_cut.specs.Cuttings.{region_count}
use Rattle.region_slots.specs.Moments.{cut_run}
use Rattle.worker_claim.specs.Driving.{HasSwept}
use Rattle.sweeping_crew.specs.Driving.{IsLast}
use Rattle.worker_claim.specs.Turns.{added}
use Rattle.worker_claim.specs.declared.driven.Driven.{Driven}
use Rattle.sweeping_crew.proofs.Rounds.{rounds-more}
use Rattle.sweeping_crew.proofs.Sweeps.{swept-more, swept-none}
use Rattle.region_slots.proofs.Observed.{told-more, told-none}
use Rattle.sweeping_crew.proofs.driving.drive_pausing.Goals as goal

pub then-driven-requires : goal.then-driven-requires
then-driven-requires g c =
    let room = row_fits c.loop-made.made (region_count c.args.field.now.terms.setup.now.chart.cut) 4294967295 4294967295 (omega (arith, c.loop-made-test.true, c.ranges.sweeps.fits)) (omega arith) in
    omega (arith, room, c.loop-made.invariant.3.turns, c.sweep-swept.ensures.swept.turns)

pub loop-made-preserved : goal.loop-made-preserved
loop-made-preserved g c =
    let one : Driven = c.loop-made.driven in
    let other : Driven = c.sweep-swept.result in (
      omega (arith, c.loop-made-test.true),
      c.sweep-swept.ensures.belongs.0,
      c.sweep-swept.ensures.belongs.1 ∙ c.loop-made.invariant.2,
      subst (λ (d : Driven). HasSwept (region_count c.args.field.now.terms.setup.now.chart.cut) c.args.goal (c.loop-made.made + 1) c.args.pass.now.knows c.sweep-swept.new.pass.knows d) (sym c.then-driven.ensures)
          (swept-more _ _ _ _ _ _ one other (added one other) record { moved = refl; held = refl; behind = refl; ended = refl } c.if-not-driven.true refl c.loop-made.invariant.3
          c.sweep-swept.ensures.swept),
      omega (arith, c.pause_where.ensures, c.loop-made.invariant.4),
      rounds-more c.args.pass.now.knows.tried c.loop-made.pass.knows.tried c.sweep-swept.new.pass.knows.tried (region_count c.args.field.now.terms.setup.now.chart.cut) c.args.first c.loop-made.made
          c.loop-made.invariant.5 c.sweep-swept.ensures.order,
      λ some.
          subst (λ (d : Driven). IsLast (region_count c.args.field.now.terms.setup.now.chart.cut) c.args.goal (c.loop-made.made + 1) c.args.pass.now.knows c.sweep-swept.new.pass.knows d.all) (sym c.then-driven.ensures)
          record {
            sweeps = c.loop-made.made;
            one_less = refl;
            before = c.loop-made.pass.knows;
            earlier = one;
            since = c.loop-made.invariant.3;
            driven = other;
            swept = c.sweep-swept.ensures.swept;
            same = refl;
            all = c.sweep-swept.ensures.all;
          },
      told-more (g.W.Observer.told_held c.args.observer.now (cut_run c.args.field.now.terms.setup.now)) (g.W.Observer.told_freed c.args.observer.now (cut_run c.args.field.now.terms.setup.now)) c.args.pass.now.knows.log c.loop-made.pass.knows.log c.sweep-swept.new.pass.knows.log
          c.loop-made.invariant.7 c.sweep-swept.ensures.told,
    )

pub loop-made-init : goal.loop-made-init
loop-made-init g c = (
  omega arith,
  c.requires.belongs,
  refl,
  subst (λ (d : Driven). HasSwept (region_count c.args.field.now.terms.setup.now.chart.cut) c.args.goal 0 c.args.pass.now.knows c.args.pass.now.knows d) (sym c.none-driven.ensures)
      (swept-none c.args.pass.now.knows (region_count c.args.field.now.terms.setup.now.chart.cut) c.args.goal),
  omega (arith, c.requires.none),
  sym (append-nil c.args.pass.now.knows.tried),
  λ some. absurd (some refl),
  told-none (g.W.Observer.told_held c.args.observer.now (cut_run c.args.field.now.terms.setup.now)) (g.W.Observer.told_freed c.args.observer.now (cut_run c.args.field.now.terms.setup.now)) c.args.pass.now.knows.log,
)

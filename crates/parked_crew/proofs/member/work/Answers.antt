use Rattle.std.proofs.Common.{◌∙◌}
use Rattle.region_slots.specs.Moments.{cut_run}
use Rattle.region_slots.proofs.Observed.{told-more}
use Rattle.parked_crew.proofs.Sweeps.{within-more}
use Rattle.parked_crew.proofs.member.work.Goals as goal

pub loop-preserved : goal.loop-preserved
loop-preserved g c =
    let came = c.sweep-swept.ensures in
    let inv = c.loop.invariant in (
      came.belongs.0,
      came.belongs.1 ∙ inv.1,
      within-more c.args.pass.now.knows c.loop.pass.knows c.sweep-swept.new.pass.knows c.args.goal inv.2 came.swept.keeps,
      told-more (g.W.Observer.told_held c.args.observer.now (cut_run c.args.field.now.terms.setup.now)) (g.W.Observer.told_freed c.args.observer.now (cut_run c.args.field.now.terms.setup.now)) c.args.pass.now.knows.log c.loop.pass.knows.log c.sweep-swept.new.pass.knows.log
          inv.3 came.told,
    )

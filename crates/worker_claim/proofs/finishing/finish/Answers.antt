use Rattle.std.proofs.Common.{◌∙◌}
use Rattle.region_slots.specs.Moments.{cut_run}
use Rattle.region_slots.proofs.Observed.{told-more}
use Rattle.region_slots.proofs.Tries.{within-more}
use Rattle.worker_claim.proofs.finishing.finish.Goals as goal

pub loop-all-preserved : goal.loop-all-preserved
loop-all-preserved g c = (
  c.sweep-all.ensures.belongs.0,
  c.sweep-all.ensures.belongs.1 ∙ c.loop-all.invariant.1,
  within-more c.args.pass.now.knows c.loop-all.pass.knows c.sweep-all.new.pass.knows c.args.goal c.loop-all.invariant.2 c.sweep-all.ensures.swept.keeps,
  λ all. (c.sweep-all.ensures.swept.all all).1,
  told-more (g.W.Observer.told_held c.args.observer.now (cut_run c.args.field.now.terms.setup.now)) (g.W.Observer.told_freed c.args.observer.now (cut_run c.args.field.now.terms.setup.now)) c.args.pass.now.knows.log c.loop-all.pass.knows.log c.sweep-all.new.pass.knows.log
      c.loop-all.invariant.4 c.sweep-all.ensures.told,
)

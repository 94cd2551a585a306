use Rattle.run_trials.proofs.Telling.{AllTold-more}
use Rattle.run_trials.proofs.rounds.step_all.Goals as goal

pub loop-r-preserved : goal.loop-r-preserved
loop-r-preserved g c = record {
  at = c.tell_halo.ensures.at;
  told = AllTold-more g.B.Body.state c.args.layout.now.net c.args.layout.now.chart c.loop-r.r c.loop-r.bodies c.tell_halo.new.bodies c.loop-r.invariant.told c.tell_halo.ensures.others c.tell_halo.ensures.told;
}

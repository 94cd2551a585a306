use Rattle.run_trials.proofs.Telling.{advanced-at}
use Rattle.run_trials.proofs.bodies.RegionBody.take_step.Goals as goal

pub returns-clause-at_next : goal.returns-clause-at_next
returns-clause-at_next c =
    advanced-at c.args.layout.now.net c.args.layout.now.chart c.args.self.now.state c.advance.new.self.state c.advance.ensures.state c.advance.ensures.bounds

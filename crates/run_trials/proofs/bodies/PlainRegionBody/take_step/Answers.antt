use Rattle.std.proofs.lemmas.Result.{on_ok_weaker}
use Rattle.run_trials.proofs.Telling.{advanced-at}
use Rattle.run_trials.proofs.bodies.PlainRegionBody.take_step.Goals as goal

pub returns-clause-at_next : goal.returns-clause-at_next
returns-clause-at_next c =
    on_ok_weaker c.advance.result
    (λ is. advanced-at c.args.layout.now.net c.args.layout.now.chart c.args.self.now.state c.advance.new.self.state is c.advance.ensures.bounds) c.advance.ensures.state

use Rattle.run_trials.specs.Rounds.{AllAt, AllTold}
use Rattle.run_trials.proofs.rounds.step_all.Given as goal

abbrev pub invariant-loop-r : goal.invariant-loop-r
invariant-loop-r g l = record {
  at : AllAt (g.B.Body.is_in l.layout.net l.layout.chart) g.B.Body.state l.layout.net l.layout.chart l.t l.bodies;
  told : AllTold g.B.Body.state l.layout.net l.layout.chart l.r l.bodies;
}

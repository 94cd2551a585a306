use Rattle.region_step.specs.Opened.{IsIn}
use Rattle.plain_region.specs.Opened.{IsIn as IsInPlain}
use Rattle.run_trials.specs.Rounds.{AllAt}
use Rattle.run_trials.proofs.alike.first_difference.Given as goal

abbrev pub invariant-loop-t : goal.invariant-loop-t
invariant-loop-t l = record {
  at : AllAt (IsIn l.layout.net l.layout.chart) (λ region. region.state) l.layout.net l.layout.chart l.t l.regions;
  plain_at : AllAt (IsInPlain l.layout.net l.layout.chart) (λ region. region.state) l.layout.net l.layout.chart l.t l.plain;
}

use Rattle.std.specs.Prelude.{slice_index}
use Rattle.std.proofs.Common.{◌≡◌}
use Rattle.region_step.specs.Advance.{HasRowsInBounds}
use Rattle.region_step.specs.Laws.{grid_state}
use Rattle.plain_region.specs.Plain.{PlainValue}
use Rattle.run_trials.specs.Rounds.{IsAt}
use Rattle.run_trials.proofs.Telling.{IfOk-both, grid_state-at}
use Rattle.run_trials.proofs.bodies.PlainRegionBody.opened.Goals as goal

pub returns-clause-at_start : goal.returns-clause-at_start
returns-clause-at_start c =
    IfOk-both c.open.result
    (λ (body : PlainValue). body.state ≡ grid_state c.args.layout.now.net c.args.layout.now.chart c.args.start.now c.args.every c.args.r (slice_index c.args.start.now.steps c.args.r))
    (λ (body : PlainValue). HasRowsInBounds c.args.layout.now.net c.args.layout.now.chart body.state)
    (λ (body : PlainValue). IsAt c.args.layout.now.net c.args.layout.now.chart c.args.r (slice_index c.args.start.now.steps c.args.r) body.state)
    (λ body is bounds. grid_state-at c.args.layout.now.net c.args.layout.now.chart c.args.start.now c.args.every c.args.r (slice_index c.args.start.now.steps c.args.r) body.state is bounds)
    c.open.ensures.state c.open.ensures.in_bounds

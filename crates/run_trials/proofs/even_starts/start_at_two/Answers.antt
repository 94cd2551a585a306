use Rattle.std.specs.Prelude.{slice_index}
use Rattle.std.proofs.Common.{ap, arith}
use Rattle.region_step.specs.Setup.{SetupValue}
use Rattle.region_step.proofs.Steps.{zero_start-at}
use Rattle.run_trials.proofs.even_starts.start_at_two.Goals as goal

pub regions_from-requires-clause-before : goal.regions_from-requires-clause-before
regions_from-requires-clause-before g c = λ lifetimes outlive r within.
    omega (arith, ap (λ (setup : SetupValue). slice_index setup.start.steps r) c.in_ok-setup.ensures.setup, zero_start-at c.args.old.net c.args.old.chart.cut r)

pub even_start-requires-clause-even : goal.even_start-requires-clause-even
even_start-requires-clause-even g c = (2, c.in_ok-regions.ensures.at)

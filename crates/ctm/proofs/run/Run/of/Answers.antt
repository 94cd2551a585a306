use Rattle.std.specs.Prelude.{slice_index}
use Rattle.std.proofs.Common.{ap, ◌∙◌}
use Rattle.region_step.specs.Setup.{SetupValue}
use Rattle.region_step.proofs.Steps.{zero_start-at}
use Rattle.ctm.proofs.run.Run.of.Goals as goal

pub at_last-requires-clause-from_zero : goal.at_last-requires-clause-from_zero
at_last-requires-clause-from_zero g c = λ some q.
    ap (λ (setup : SetupValue). slice_index setup.start.steps q) c.in_ok-regions.ensures.setup ∙ zero_start-at c.args.layout.net c.args.layout.chart.cut q

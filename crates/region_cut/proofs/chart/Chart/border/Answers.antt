use Rattle.std.proofs.Common.{ap, subst, ◌∙◌}
use Rattle.region_cut.specs.Chart.{IsChart, list_at}
use Rattle.region_cut.proofs.ChartReads.{border-there}
use Rattle.region_cut.proofs.chart.Chart.border.Goals as goal

pub returns-clause-there : goal.returns-clause-there
returns-clause-there c =
    border-there c.args.self.now c.args.r c.at.result.now (subst IsChart c.self.view_is c.self.invariant) c.requires
    (c.at.ensures ∙ ap (λ chart. list_at chart.border c.args.r) c.self.view_is)

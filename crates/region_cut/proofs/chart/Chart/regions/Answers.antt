use Rattle.std.proofs.Common.{arith}
use Rattle.region_cut.proofs.Cuttings.{region_count-few}
use Rattle.region_cut.proofs.chart.Chart.regions.Goals as goal

pub overflow_cast-result : goal.overflow_cast-result
overflow_cast-result c =
    omega (arith, c.len.ensures, c.self.invariant.cells, region_count-few _ c.self.inside.cut c.self.invariant.cutting)

pub returns-clause-few : goal.returns-clause-few
returns-clause-few c =
    omega (arith, c.len.ensures, c.self.invariant.cells, region_count-few _ c.self.inside.cut c.self.invariant.cutting)

use Rattle.std.proofs.Common.{arith}
use Rattle.region_cut.proofs.Cuttings.{at-le-greatest}
use Rattle.region_step.proofs.start.cell_step.Goals as goal

pub bounds-steps-region_of : goal.bounds-steps-region_of
bounds-steps-region_of c = omega (arith, c.region_of.ensures, at-le-greatest c.args.layout.now.chart.cut c.args.i, c.requires.one_each)

use Rattle.std.proofs.Common.{length, ap, arith}
use Rattle.region_step.proofs.Ordered.{length-rows_in}
use Rattle.region_step.proofs.region.Region.row.Goals as goal

pub row-requires : goal.row-requires
row-requires c =
    let cells = c.self.inside.cells in
    let rows = ap (λ region. length region.state.rows) c.self.view_is in
    omega (arith, length-rows_in cells, rows, c.requires)

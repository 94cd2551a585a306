use Rattle.std.proofs.Common.{arith}
use Rattle.cut_grow.proofs.Spanning.{span-is}
use Rattle.cut_grow.proofs.span.span_of.Goals as goal

pub returns : goal.returns
returns c =
    span-is c.args.places.now c.three_cells.result c.args.connector c.min-2.result c.max-2.result c.three_cells.ensures.cells
    (omega (arith, c.min.ensures, c.min-2.ensures)) (omega (arith, c.max.ensures, c.max-2.ensures))

use Rattle.std.proofs.Common.{◌≡◌, length, subst, sym, ap, arith}
use Rattle.network_file.specs.Cutting.{IsCutting}
use Rattle.region_cut.proofs.EvenCutting.{even_cutting-IsCutting, length-even_cutting}
use Rattle.region_cut.proofs.cut.Cut.even.Goals as goal

pub invariant_of-result : goal.invariant_of-result
invariant_of-result c =
    let cells : length c.net.inside.cells.items ≡ length c.args.net.now.cells = ap (λ net. length net.cells) c.net.view_is in
    subst (λ list. IsCutting (length list) list) (sym c.in_ok-regions.ensures)
    (even_cutting-IsCutting c.len.result c.args.k c.requires.some c.requires.few (omega (arith, cells, c.requires.cells, c.net.inside.cells.ok.0)))

pub returns-clause-one_each : goal.returns-clause-one_each
returns-clause-one_each c =
    let cells : length c.net.inside.cells.items ≡ length c.args.net.now.cells = ap (λ net. length net.cells) c.net.view_is in
    omega (arith, cells, c.net.inside.cells.ok.0, ap length c.in_ok-regions.ensures, length-even_cutting c.len.result c.args.k)

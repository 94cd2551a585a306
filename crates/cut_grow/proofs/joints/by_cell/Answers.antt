use Rattle.std.specs.List.{list_any}
use Rattle.std.proofs.Common.{◌<◌, get_or, eqb, ap, arith, sym, ◌∙◌}
use Rattle.network_file.specs.Numbered.{connector_at}
use Rattle.network_file.specs.declared.connector.Connector.{Connector}
use Rattle.network_file.specs.declared.connector.Connector.TheVariants.{Link}
use Rattle.cut_grow.proofs.Connectors.{two-all, two-is}
use Rattle.cut_grow.proofs.SideTables.{side-more}
use Rattle.cut_grow.proofs.joints.by_cell.Goals as goal

pub index_mut-requires : goal.index_mut-requires
index_mut-requires c =
    let there = two-all (λ i. i < c.args.cells) c.args.side (connector_at c.args.connectors.now c.loop-k.k) c.cells.result c.cells.ensures.cells (c.requires.there c.loop-k.k (Link 0 0) (omega arith)) in
    omega (arith, there.0, c.loop-k.invariant.one_each, c.loop-k.table.ok.0)

pub index_mut-requires-in-loop-k : goal.index_mut-requires-in-loop-k
index_mut-requires-in-loop-k c =
    let there = two-all (λ i. i < c.args.cells) c.args.side (connector_at c.args.connectors.now c.loop-k.k) c.cells.result c.cells.ensures.cells (c.requires.there c.loop-k.k (Link 0 0) (omega arith)) in
    omega (arith, there.1, c.loop-k.invariant.one_each, c.loop-k.table.ok.0)

pub loop-k-preserved : goal.loop-k-preserved
loop-k-preserved c =
    let connector : Connector = connector_at c.args.connectors.now c.loop-k.k in
    let there = two-all (λ i. i < c.args.cells) c.args.side connector c.cells.result c.cells.ensures.cells (c.requires.there c.loop-k.k (Link 0 0) (omega arith)) in
    side-more c.args.side c.args.cells c.args.connectors.now c.loop-k.k (get_or c.cells.result 0 0) (get_or c.cells.result 1 0) c.loop-k.table.items c.loop-k.invariant
    (omega arith) there.0 there.1
    (λ i. ap (list_any (eqb i)) (sym (two-is c.args.side connector c.cells.result c.cells.ensures.cells)) ∙ c.cells.ensures.same (eqb i))

use Rattle.std.proofs.Common.{ap, arith, length, ◌∙◌}
use Rattle.region_cut.specs.Chart.{connectors_of, list_at}
use Rattle.region_cut.proofs.ListsByRegion.{by_number_more, list_at-map}
use Rattle.region_cut.proofs.met.met_by_region.Goals as goal

pub met-requires-clause-list : goal.met-requires-clause-list
met-requires-clause-list c =
    c.at.ensures ∙ ap (λ lists. list_at lists c.loop-r.r) c.requires.lists ∙
    list_at-map (connectors_of c.args.net.now c.args.cut.now) (length c.args.connectors.now) c.loop-r.r (omega arith)

pub loop-r-preserved : goal.loop-r-preserved
loop-r-preserved c = by_number_more _ c.loop-r.r _ _ _ c.loop-r.invariant c.in_ok-add.ensures c.in_ok-cells.ensures

use Rattle.std.proofs.Common.{ap, arith, length, map, ◌∙◌}
use Rattle.std.proofs.lemmas.List.FromFn.{length-map-range_with_len}
use Rattle.region_cut.proofs.ListsByRegion.{by_number_more}
use Rattle.region_cut.specs.Gathered.{outside, placed}
use Rattle.region_cut.proofs.halo_lists.halo_by_region.Goals as goal

pub loop-r-preserved : goal.loop-r-preserved
loop-r-preserved c =
    by_number_more _ c.loop-r.r _ _ _ c.loop-r.invariant c.in_ok-add.ensures
    (c.in_ok-cells.ensures ∙ ap (λ met. map (placed c.args.cut.now c.args.border.now) (outside c.args.cut.now c.loop-r.r met)) c.at.ensures)

pub returns-clause-few : goal.returns-clause-few
returns-clause-few c = omega (arith, c.requires.few, ap length c.loop-r.invariant ∙ length-map-range_with_len _ 0 c.loop-r.r)

use Rattle.std.specs.Prelude.{All}
use Rattle.std.proofs.Common.{◌<◌, ap, arith, length, subst, sym, ◌∙◌}
use Rattle.region_cut.proofs.ListsByRegion.{by_number_more}
use Rattle.region_cut.specs.Gathered.{halo_regions}
use Rattle.region_cut.proofs.neighbours.neighbours_by_region.Goals as goal

pub loop-r-preserved : goal.loop-r-preserved
loop-r-preserved c =
    by_number_more _ c.loop-r.r _ _ _ c.loop-r.invariant c.in_ok-add.ensures
    (c.in_ok-regions.ensures (length c.args.halo.now)
    (subst (All (λ other. other.region < length c.args.halo.now)) (sym c.at.ensures) (c.requires.there c.loop-r.r (omega arith))) ∙ ap (halo_regions (length c.args.halo.now)) c.at.ensures)

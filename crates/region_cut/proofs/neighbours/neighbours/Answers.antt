use Rattle.std.specs.List.{list_any}
use Rattle.std.proofs.Common.{ap, ◌∙◌}
use Rattle.region_cut.proofs.HaloPlaces.{halo_regions-is}
use Rattle.region_cut.proofs.neighbours.neighbours.Goals as goal

pub returns : goal.returns
returns c = λ count there.
    halo_regions-is count c.args.halo.now c.order.new.list.items c.order.ensures.increasing
    (λ test. c.order.ensures.same test ∙ ap (list_any test) c.in_ok-regions.ensures) there

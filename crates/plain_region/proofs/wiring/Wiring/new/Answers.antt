use Rattle.std.specs.Prelude.{map}
use Rattle.std.proofs.Common.{ap, refl, subst, ◌∙◌}
use Rattle.network_file.specs.Sound.{IsNetwork}
use Rattle.region_cut.specs.Chart.{list_at}
use Rattle.region_step.proofs.Ground.{ground-read}
use Rattle.plain_region.proofs.wiring.Wiring.new.Goals as goal

pub connectors_of-requires-clause-there : goal.connectors_of-requires-clause-there
connectors_of-requires-clause-there c =
    rw c.net-net.ensures.network (ground-read c.args.layout.now.net c.args.layout.now.chart.cut c.args.layout.now.chart c.args.r c.cells-cells.result.now c.deref.result.now c.connectors.result.now (list_at c.args.layout.now.chart.border c.args.r)
    (subst IsNetwork (c.net.view_is ∙ c.net-net.ensures.network) c.net.invariant) c.net-net.ensures.charted c.requires.there c.cells-cells.ensures.list
    (c.deref.ensures.value ∙ c.in_ok-halo.ensures ∙ ap (map (λ other. other.cell)) c.halo.ensures.list) c.connectors.ensures refl).there

pub connectors_of-requires-clause-known : goal.connectors_of-requires-clause-known
connectors_of-requires-clause-known c =
    let here = ground-read c.args.layout.now.net c.args.layout.now.chart.cut c.args.layout.now.chart c.args.r c.cells-cells.result.now c.deref.result.now c.connectors.result.now (list_at c.args.layout.now.chart.border c.args.r)
    (subst IsNetwork (c.net.view_is ∙ c.net-net.ensures.network) c.net.invariant) c.net-net.ensures.charted c.requires.there c.cells-cells.ensures.list
    (c.deref.ensures.value ∙ c.in_ok-halo.ensures ∙ ap (map (λ other. other.cell)) c.halo.ensures.list) c.connectors.ensures refl in
    rw c.net-net.ensures.network λ j d within. record { each = (here.known j d within).each }

pub connectors_of-requires-clause-increasing : goal.connectors_of-requires-clause-increasing
connectors_of-requires-clause-increasing c =
    (ground-read c.args.layout.now.net c.args.layout.now.chart.cut c.args.layout.now.chart c.args.r c.cells-cells.result.now c.deref.result.now c.connectors.result.now (list_at c.args.layout.now.chart.border c.args.r)
    (subst IsNetwork (c.net.view_is ∙ c.net-net.ensures.network) c.net.invariant) c.net-net.ensures.charted c.requires.there c.cells-cells.ensures.list
    (c.deref.ensures.value ∙ c.in_ok-halo.ensures ∙ ap (map (λ other. other.cell)) c.halo.ensures.list) c.connectors.ensures refl).apart.rising

pub connectors_of-requires-clause-halo_increasing : goal.connectors_of-requires-clause-halo_increasing
connectors_of-requires-clause-halo_increasing c =
    (ground-read c.args.layout.now.net c.args.layout.now.chart.cut c.args.layout.now.chart c.args.r c.cells-cells.result.now c.deref.result.now c.connectors.result.now (list_at c.args.layout.now.chart.border c.args.r)
    (subst IsNetwork (c.net.view_is ∙ c.net-net.ensures.network) c.net.invariant) c.net-net.ensures.charted c.requires.there c.cells-cells.ensures.list
    (c.deref.ensures.value ∙ c.in_ok-halo.ensures ∙ ap (map (λ other. other.cell)) c.halo.ensures.list) c.connectors.ensures refl).apart.halo_rising

pub connectors_of-requires-clause-few : goal.connectors_of-requires-clause-few
connectors_of-requires-clause-few c =
    (ground-read c.args.layout.now.net c.args.layout.now.chart.cut c.args.layout.now.chart c.args.r c.cells-cells.result.now c.deref.result.now c.connectors.result.now (list_at c.args.layout.now.chart.border c.args.r)
    (subst IsNetwork (c.net.view_is ∙ c.net-net.ensures.network) c.net.invariant) c.net-net.ensures.charted c.requires.there c.cells-cells.ensures.list
    (c.deref.ensures.value ∙ c.in_ok-halo.ensures ∙ ap (map (λ other. other.cell)) c.halo.ensures.list) c.connectors.ensures refl).few

pub connectors_of-requires-clause-few_halo : goal.connectors_of-requires-clause-few_halo
connectors_of-requires-clause-few_halo c =
    (ground-read c.args.layout.now.net c.args.layout.now.chart.cut c.args.layout.now.chart c.args.r c.cells-cells.result.now c.deref.result.now c.connectors.result.now (list_at c.args.layout.now.chart.border c.args.r)
    (subst IsNetwork (c.net.view_is ∙ c.net-net.ensures.network) c.net.invariant) c.net-net.ensures.charted c.requires.there c.cells-cells.ensures.list
    (c.deref.ensures.value ∙ c.in_ok-halo.ensures ∙ ap (map (λ other. other.cell)) c.halo.ensures.list) c.connectors.ensures refl).few_halo

pub border_places-requires-clause-inside : goal.border_places-requires-clause-inside
border_places-requires-clause-inside c =
    (ground-read c.args.layout.now.net c.args.layout.now.chart.cut c.args.layout.now.chart c.args.r c.cells-cells.result.now c.deref.result.now c.connectors.result.now c.border.result.now
    (subst IsNetwork (c.net.view_is ∙ c.net-net.ensures.network) c.net.invariant) c.net-net.ensures.charted c.requires.there c.cells-cells.ensures.list
    (c.deref.ensures.value ∙ c.in_ok-halo.ensures ∙ ap (map (λ other. other.cell)) c.halo.ensures.list) c.connectors.ensures c.border.ensures.list).inside

pub border_places-requires-clause-increasing : goal.border_places-requires-clause-increasing
border_places-requires-clause-increasing c =
    (ground-read c.args.layout.now.net c.args.layout.now.chart.cut c.args.layout.now.chart c.args.r c.cells-cells.result.now c.deref.result.now c.connectors.result.now c.border.result.now
    (subst IsNetwork (c.net.view_is ∙ c.net-net.ensures.network) c.net.invariant) c.net-net.ensures.charted c.requires.there c.cells-cells.ensures.list
    (c.deref.ensures.value ∙ c.in_ok-halo.ensures ∙ ap (map (λ other. other.cell)) c.halo.ensures.list) c.connectors.ensures c.border.ensures.list).apart.rising

pub border_places-requires-clause-few : goal.border_places-requires-clause-few
border_places-requires-clause-few c =
    (ground-read c.args.layout.now.net c.args.layout.now.chart.cut c.args.layout.now.chart c.args.r c.cells-cells.result.now c.deref.result.now c.connectors.result.now c.border.result.now
    (subst IsNetwork (c.net.view_is ∙ c.net-net.ensures.network) c.net.invariant) c.net-net.ensures.charted c.requires.there c.cells-cells.ensures.list
    (c.deref.ensures.value ∙ c.in_ok-halo.ensures ∙ ap (map (λ other. other.cell)) c.halo.ensures.list) c.connectors.ensures c.border.ensures.list).few

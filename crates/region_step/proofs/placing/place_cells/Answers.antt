use Rattle.std.specs.Prelude.{map, slice_index}
use Rattle.std.proofs.Common.{◌≡◌, ◌<◌, length, get_or, arith, ap, subst, ◌∙◌}
use Rattle.std.proofs.lemmas.List.{get_or_default}
use Rattle.network_file.specs.Sound.{IsNetwork}
use Rattle.flow_model.specs.Bounds.{IsRowInBounds}
use Rattle.flow_model.specs.Rows.{empty_row}
use Rattle.flow_model.specs.State.{row_at}
use Rattle.region_cut.specs.Chart.{list_at}
use Rattle.region_step.proofs.Ground.{cells-within, ground}
use Rattle.region_step.proofs.Ordered.{All-placed, cells-placed, in_order}
use Rattle.region_step.proofs.RegionCells.{are_cells, rows_fit}
use Rattle.region_step.proofs.placing.place_cells.Goals as goal

pub of-requires-clause-there : goal.of-requires-clause-there
of-requires-clause-there c =
    let here = ground c.args.layout.now.net c.args.layout.now.chart.cut c.args.layout.now.chart c.args.r (subst IsNetwork (c.net.view_is ∙ c.net-net.ensures.network) c.net.invariant) c.net-net.ensures.charted c.requires.there in
    rw (c.connectors-connectors.ensures, c.net-net.ensures.network) here.there

pub of-requires-clause-few : goal.of-requires-clause-few
of-requires-clause-few c =
    let here = ground c.args.layout.now.net c.args.layout.now.chart.cut c.args.layout.now.chart c.args.r (subst IsNetwork (c.net.view_is ∙ c.net-net.ensures.network) c.net.invariant) c.net-net.ensures.charted c.requires.there in
    omega (arith, ap length c.cells-cells.ensures.list, here.few)

pub new-requires-clause-increasing : goal.new-requires-clause-increasing
new-requires-clause-increasing c =
    let here = ground c.args.layout.now.net c.args.layout.now.chart.cut c.args.layout.now.chart c.args.r (subst IsNetwork (c.net.view_is ∙ c.net-net.ensures.network) c.net.invariant) c.net-net.ensures.charted c.requires.there in
    rw c.cells-cells.ensures.list here.apart.rising

pub new-requires-clause-cells : goal.new-requires-clause-cells
new-requires-clause-cells c =
    let halo = c.deref.ensures.value ∙ c.in_ok-halo.ensures ∙ ap (map (λ other. other.cell)) c.halo.ensures.list in
    rw c.net-net.ensures.network (cells-placed c.args.layout.now.net c.cells-cells.result.now c.deref.result.now c.connectors-connectors.result.now c.in_ok-order.order c.in_ok-order.ensures
    (rw (c.cells-cells.ensures.list, halo, c.connectors-connectors.ensures)
    (are_cells c.args.layout.now.net c.args.layout.now.chart.cut c.args.layout.now.chart c.args.r (subst IsNetwork (c.net.view_is ∙ c.net-net.ensures.network) c.net.invariant) c.net-net.ensures.charted c.requires.there)))

pub new-requires-clause-rows : goal.new-requires-clause-rows
new-requires-clause-rows c =
    All-placed (λ i. i < length c.deref-2.result.now) c.in_ok-order.ensures
    (cells-within c.args.layout.now.net c.args.layout.now.chart.cut c.args.layout.now.chart c.args.r c.cells-cells.result.now c.deref-2.result.now (subst IsNetwork (c.net.view_is ∙ c.net-net.ensures.network) c.net.invariant)
    c.net-net.ensures.charted c.requires.there c.cells-cells.ensures.list (ap length (c.deref-2.ensures.value ∙ ap (λ start. start.rows) c.start.view_is) ∙ c.requires.fits.rows))

pub new-requires-clause-earlier : goal.new-requires-clause-earlier
new-requires-clause-earlier c =
    All-placed (λ i. i < length c.deref-3.result.now) c.in_ok-order.ensures
    (cells-within c.args.layout.now.net c.args.layout.now.chart.cut c.args.layout.now.chart c.args.r c.cells-cells.result.now c.deref-3.result.now (subst IsNetwork (c.net.view_is ∙ c.net-net.ensures.network) c.net.invariant)
    c.net-net.ensures.charted c.requires.there c.cells-cells.ensures.list (ap length (c.deref-3.ensures.value ∙ ap (λ start. start.earlier) c.start.view_is) ∙ c.requires.fits.earlier))

pub new-requires-clause-bounds : goal.new-requires-clause-bounds
new-requires-clause-bounds c =
    let rows = c.deref-2.ensures.value ∙ ap (λ start. start.rows) c.start.view_is in
    let step : c.index-step.result.now ≡ slice_index c.args.start.now.steps c.args.r =
    c.index-step.ensures ∙ ap (λ start. get_or start.steps c.args.r c.index-step.result.now) c.start.view_is ∙
    get_or_default c.args.start.now.steps c.args.r c.index-step.result.now 0 (omega (arith, c.requires.fits.one_each, c.requires.there)) in
    All-placed (λ i. IsRowInBounds c.net-net.result.now c.index-step.result.now i (row_at c.deref-2.result.now i)) c.in_ok-order.ensures
    (rw (c.cells-cells.ensures.list, rows, step, c.net-net.ensures.network)
    (rows_fit c.args.layout.now.net c.args.layout.now.chart.cut c.args.layout.now.chart c.args.start.now c.args.r (subst IsNetwork (c.net.view_is ∙ c.net-net.ensures.network) c.net.invariant) c.net-net.ensures.charted c.requires.there c.requires.fits))

pub returns-clause-rows : goal.returns-clause-rows
returns-clause-rows c =
    let rows = c.deref-2.ensures.value ∙ ap (λ start. start.rows) c.start.view_is in
    in_order empty_row (row_at c.deref-2.result.now) _ c.cells-cells.result.now c.in_ok-order.order c.in_ok-order.ensures c.in_ok-rows.ensures.rows ∙
    ap (map (row_at c.deref-2.result.now)) c.cells-cells.ensures.list ∙
    ap (λ list. map (row_at list) (list_at c.args.layout.now.chart.cells c.args.r)) rows

pub returns-clause-before : goal.returns-clause-before
returns-clause-before c =
    let earlier = c.deref-3.ensures.value ∙ ap (λ start. start.earlier) c.start.view_is in
    in_order 0 (slice_index c.deref-3.result.now) _ c.cells-cells.result.now c.in_ok-order.order c.in_ok-order.ensures c.in_ok-rows.ensures.before ∙
    ap (map (slice_index c.deref-3.result.now)) c.cells-cells.ensures.list ∙
    ap (λ list. map (slice_index list) (list_at c.args.layout.now.chart.cells c.args.r)) earlier

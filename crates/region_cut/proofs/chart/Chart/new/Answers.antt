use Rattle.std.proofs.Common.{length, subst}
use Rattle.network_file.specs.Cutting.{IsCutting}
use Rattle.region_cut.proofs.Charting.{border-are, border-increasing, chart-is, chart-sound, connectors-are, connectors-each, cut_into, few_numbers, halo-are, halo-there, met-CanPlace, met-are, met-there, regions_there}
use Rattle.region_cut.proofs.chart.Chart.new.Goals as goal

pub cells_by_region-requires-clause-numbered : goal.cells_by_region-requires-clause-numbered
cells_by_region-requires-clause-numbered c = few_numbers (cut_into c.net.invariant c.net.view_is c.requires c.count-regions.ensures.count c.regions-of_cells.ensures)

pub cells_by_region-requires-clause-there : goal.cells_by_region-requires-clause-there
cells_by_region-requires-clause-there c = regions_there (cut_into c.net.invariant c.net.view_is c.requires c.count-regions.ensures.count c.regions-of_cells.ensures)

pub connectors_by_region-requires-clause-there : goal.connectors_by_region-requires-clause-there
connectors_by_region-requires-clause-there c = regions_there (cut_into c.net.invariant c.net.view_is c.requires c.count-regions.ensures.count c.regions-of_cells.ensures)

pub met_by_region-requires-clause-lists : goal.met_by_region-requires-clause-lists
met_by_region-requires-clause-lists c =
    let into = cut_into c.net.invariant c.net.view_is c.requires c.count-regions.ensures.count c.regions-of_cells.ensures in
    connectors-each into (connectors-are into c.in_ok-connectors.ensures.lists)

pub border_by_region-requires-clause-there : goal.border_by_region-requires-clause-there
border_by_region-requires-clause-there c =
    let into = cut_into c.net.invariant c.net.view_is c.requires c.count-regions.ensures.count c.regions-of_cells.ensures in
    met-there into (met-are into c.in_ok-connectors.ensures.lists c.in_ok-met.ensures.lists)

pub halo_by_region-requires-clause-there : goal.halo_by_region-requires-clause-there
halo_by_region-requires-clause-there c =
    let into = cut_into c.net.invariant c.net.view_is c.requires c.count-regions.ensures.count c.regions-of_cells.ensures in
    let met = met-are into c.in_ok-connectors.ensures.lists c.in_ok-met.ensures.lists in
    met-CanPlace into met (border-are into met c.in_ok-border.ensures)

pub halo_by_region-requires-clause-increasing : goal.halo_by_region-requires-clause-increasing
halo_by_region-requires-clause-increasing c =
    let into = cut_into c.net.invariant c.net.view_is c.requires c.count-regions.ensures.count c.regions-of_cells.ensures in
    border-increasing into (border-are into (met-are into c.in_ok-connectors.ensures.lists c.in_ok-met.ensures.lists) c.in_ok-border.ensures)

pub neighbours_by_region-requires-clause-there : goal.neighbours_by_region-requires-clause-there
neighbours_by_region-requires-clause-there c =
    let into = cut_into c.net.invariant c.net.view_is c.requires c.count-regions.ensures.count c.regions-of_cells.ensures in
    let met = met-are into c.in_ok-connectors.ensures.lists c.in_ok-met.ensures.lists in
    halo-there into (halo-are into met (border-are into met c.in_ok-border.ensures) c.in_ok-halo.ensures.lists)

pub returns-clause-chart : goal.returns-clause-chart
returns-clause-chart c =
    let into = cut_into c.net.invariant c.net.view_is c.requires c.count-regions.ensures.count c.regions-of_cells.ensures in
    let met = met-are into c.in_ok-connectors.ensures.lists c.in_ok-met.ensures.lists in
    let border = border-are into met c.in_ok-border.ensures in
    chart-is into c.regions-of_cells.ensures c.in_ok-cells.ensures c.in_ok-connectors.ensures.lists border (halo-are into met border c.in_ok-halo.ensures.lists) c.in_ok-neighbours.ensures

pub invariant_of-result : goal.invariant_of-result
invariant_of-result c =
    let into = cut_into c.net.invariant c.net.view_is c.requires c.count-regions.ensures.count c.regions-of_cells.ensures in
    let met = met-are into c.in_ok-connectors.ensures.lists c.in_ok-met.ensures.lists in
    let border = border-are into met c.in_ok-border.ensures in
    let halo = halo-are into met border c.in_ok-halo.ensures.lists in
    let chart = chart-is into c.regions-of_cells.ensures c.in_ok-cells.ensures c.in_ok-connectors.ensures.lists border halo c.in_ok-neighbours.ensures in
    chart-sound into c.regions-of_cells.ensures (subst (λ of. IsCutting (length of) of) c.cut.view_is c.cut.invariant) chart

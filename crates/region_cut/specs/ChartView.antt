-- A chart as contracts see it: a cutting, and lists for each region.
use Rattle.region_cut.specs.Chart.{ChartLists}
use Rattle.region_cut.specs.declared.chart.Chart.TheInside.{Inside}

abbrev pub lists_in : Inside → ChartLists
lists_in chart = record {
  cut = chart.cut;
  cells = chart.cells;
  neighbours = chart.neighbours;
  border = chart.border;
  connectors = chart.connectors;
  halo = chart.halo;
}

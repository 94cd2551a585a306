-- Each list of a region in the chart of a network that is cut.
use Rattle.std.proofs.Common.{◌≡◌, ℕ, ◌<◌, List, ap, ◌∙◌}
use Rattle.network_file.specs.Network.{Network}
use Rattle.region_cut.specs.Chart.{ChartLists, border_of, cells_in, chart_of, connectors_of, halo_of, list_at, neighbours_of}
use Rattle.region_cut.specs.Cuttings.{region_count}
use Rattle.region_cut.proofs.ListsByRegion.{list_at-map}

pub chart-cells : (net : Network) (cut : List ℕ) (chart : ChartLists) (r : ℕ) → chart ≡ chart_of net cut → r < region_count cut → list_at chart.cells r ≡ cells_in net cut r
unfolding chart_of
chart-cells net cut chart r is within = ap (λ lists. list_at lists.cells r) is ∙ list_at-map (cells_in net cut) (region_count cut) r within

pub chart-neighbours : (net : Network) (cut : List ℕ) (chart : ChartLists) (r : ℕ) → chart ≡ chart_of net cut → r < region_count cut → list_at chart.neighbours r ≡ neighbours_of net cut r
unfolding chart_of
chart-neighbours net cut chart r is within = ap (λ lists. list_at lists.neighbours r) is ∙ list_at-map (neighbours_of net cut) (region_count cut) r within

pub chart-border : (net : Network) (cut : List ℕ) (chart : ChartLists) (r : ℕ) → chart ≡ chart_of net cut → r < region_count cut → list_at chart.border r ≡ border_of net cut r
unfolding chart_of
chart-border net cut chart r is within = ap (λ lists. list_at lists.border r) is ∙ list_at-map (border_of net cut) (region_count cut) r within

pub chart-connectors : (net : Network) (cut : List ℕ) (chart : ChartLists) (r : ℕ) → chart ≡ chart_of net cut → r < region_count cut → list_at chart.connectors r ≡ connectors_of net cut r
unfolding chart_of
chart-connectors net cut chart r is within = ap (λ lists. list_at lists.connectors r) is ∙ list_at-map (connectors_of net cut) (region_count cut) r within

pub chart-halo : (net : Network) (cut : List ℕ) (chart : ChartLists) (r : ℕ) → chart ≡ chart_of net cut → r < region_count cut → list_at chart.halo r ≡ halo_of net cut r
unfolding chart_of
chart-halo net cut chart r is within = ap (λ lists. list_at lists.halo r) is ∙ list_at-map (halo_of net cut) (region_count cut) r within

-- A fact of each neighbour in a chart's list is one of each neighbour in the network.
use Rattle.std.specs.Prelude.{All}
use Rattle.std.proofs.Common.{◌≡◌, ℕ, ◌<◌, List, true, get_or, sym, subst}
use Rattle.std.proofs.lemmas.List.Elements.{All-contains, Contains-get_or}
use Rattle.network_file.specs.Network.{Network}
use Rattle.region_cut.specs.Chart.{ChartLists, chart_of, list_at, neighbours_of}
use Rattle.region_cut.specs.Cuttings.{region_count}
use Rattle.region_cut.specs.Neighbours.{are_neighbours}
use Rattle.region_cut.proofs.ChartParts.{chart-neighbours}
use Rattle.region_cut.proofs.Meetings.{neighbours-by, touches_region-cell}
use Rattle.region_cut.proofs.Membership.{Contains-neighbours_of, neighbours_of-Contains, region_at-there}

-- a neighbour is one of the regions, and so is a region that has one
pub neighbour-there : (net : Network) (cut : List ℕ) (r q : ℕ) → are_neighbours net.connectors cut r q ≡ true → (r < region_count cut) × (q < region_count cut)
neighbour-there net cut r q near =
    let by = neighbours-by net.connectors cut r q near in
    let first = touches_region-cell cut r by.connector by.first in
    let second = touches_region-cell cut q by.connector by.second in (
      subst (λ p. p < region_count cut) first.2 (region_at-there cut first.0),
      subst (λ p. p < region_count cut) second.2 (region_at-there cut second.0),
    )

pub each_neighbour : (P : ℕ → Type 0) (net : Network) (cut : List ℕ) (chart : ChartLists) (r : ℕ) → chart ≡ chart_of net cut → r < region_count cut →
    All P (list_at chart.neighbours r) → (q : ℕ) → are_neighbours net.connectors cut r q ≡ true → P q
each_neighbour P net cut chart r is within all q near =
    All-contains P (neighbours_of net cut r) q (subst (All P) (chart-neighbours net cut chart r is within) all)
    (neighbours_of-Contains net cut r q ((neighbour-there net cut r q near).1) near)

pub all_neighbours : (P : ℕ → Type 0) (net : Network) (cut : List ℕ) (chart : ChartLists) (r : ℕ) → chart ≡ chart_of net cut → r < region_count cut →
    ((q : ℕ) → are_neighbours net.connectors cut r q ≡ true → P q) → All P (list_at chart.neighbours r)
all_neighbours P net cut chart r is within each =
    subst (All P) (sym (chart-neighbours net cut chart r is within))
    (λ k d inside. each (get_or (neighbours_of net cut r) k d) ((Contains-neighbours_of net cut r (get_or (neighbours_of net cut r) k d) (Contains-get_or (neighbours_of net cut r) k d inside)).1))

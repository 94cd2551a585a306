-- What a region's cells stand on as they are placed.
use Rattle.std.specs.Prelude.{All, slice_index}
use Rattle.std.proofs.Common.{◌≡◌, ℕ, ◌<◌, List, get_or, subst}
use Rattle.std.proofs.lemmas.List.Elements.{Contains-get_or}
use Rattle.network_file.specs.Numbered.{connector_at}
use Rattle.network_file.specs.Network.{Network}
use Rattle.network_file.specs.Sound.{IsNetwork}
use Rattle.flow_model.specs.Bounds.{IsRowInBounds}
use Rattle.flow_model.specs.State.{row_at}
use Rattle.region_body.specs.Placed.{AreCells}
use Rattle.region_cut.specs.Chart.{ChartLists, chart_of, list_at}
use Rattle.region_cut.specs.Cuttings.{region_count}
use Rattle.region_cut.specs.Neighbours.{touches_region}
use Rattle.region_step.specs.Opened.{halo_cells}
use Rattle.region_step.specs.Start.{StartLists}
use Rattle.region_step.specs.Starting.{Fits}
use Rattle.region_step.proofs.Ground.{ground}
use Rattle.region_step.proofs.Places.{one_place, own-not_halo}

-- the lists of a region in the chart
pub are_cells : (net : Network) (cut : List ℕ) (chart : ChartLists) (r : ℕ) → IsNetwork net → chart ≡ chart_of net cut → r < region_count cut →
    AreCells net (list_at chart.cells r) (halo_cells chart r) (list_at chart.connectors r)
are_cells net cut chart r sound is within =
    let here = ground net cut chart r sound is within in
    record {
      around = record {
        distinct = λ p q within inside same. one_place (list_at chart.cells r) p q here.apart.rising within inside same;
        there = λ k d inside. (here.own (get_or (list_at chart.cells r) k d) (Contains-get_or (list_at chart.cells r) k d inside)).0;
        touched = λ k. touches_region cut r (connector_at net.connectors k);
        numbers = here.numbers;
        whole = λ i k own there touched. here.touched i k own touched;
      };
      halo_rising = here.apart.halo_rising;
      halo_there = λ k d inside. (here.met (get_or (halo_cells chart r) k d) (Contains-get_or (halo_cells chart r) k d inside)).0;
      apart = λ p j own other. own-not_halo (list_at chart.cells r) (halo_cells chart r) p j here.apart own other;
      there = here.there;
      known = here.known;
      few = here.few;
      few_halo = here.few_halo;
    }

-- each of its cells has a row in bounds at the region's step
pub rows_fit : (net : Network) (cut : List ℕ) (chart : ChartLists) (start : StartLists) (r : ℕ) → IsNetwork net → chart ≡ chart_of net cut → r < region_count cut → Fits net cut start →
    All (λ i. IsRowInBounds net (slice_index start.steps r) i (row_at start.rows i)) (list_at chart.cells r)
rows_fit net cut chart start r sound is within fits = λ k d inside.
    let here = ground net cut chart r sound is within in
    let own = here.own (get_or (list_at chart.cells r) k d) (Contains-get_or (list_at chart.cells r) k d inside) in
    subst (λ q. IsRowInBounds net (slice_index start.steps q) (get_or (list_at chart.cells r) k d) (row_at start.rows (get_or (list_at chart.cells r) k d)))
    own.1 ((fits.bounds (get_or (list_at chart.cells r) k d) own.0).row)

-- What holds of every chart.
use Rattle.std.specs.Prelude.{slice_index}
use Rattle.std.specs.List.{Contains, range_with_len}
use Rattle.std.specs.List.Sorted.{IsStrictlyIncreasing}
use Rattle.std.proofs.Common.{◌≡◌, ℕ, ◌<◌, List, length, map, refl, sym, ap, subst, ◌∙◌}
use Rattle.std.proofs.lemmas.List.FromFn.{length-map-range_with_len}
use Rattle.network_file.specs.Cutting.{IsCutting}
use Rattle.network_file.specs.Network.{Network}
use Rattle.region_cut.specs.Chart.{IsChart, IsRegion, border_of, cells_in, chart_of, connectors_of, halo_at, halo_of, list_at, neighbours_of}
use Rattle.region_cut.specs.Cuttings.{region_at, region_count}
use Rattle.region_cut.specs.declared.halo.Halo.{Halo}
use Rattle.region_cut.proofs.ListsByRegion.{list_at-map}
use Rattle.region_cut.proofs.Meetings.{halo-border, halo-neighbours, neighbours-by, neighbours-sym}
use Rattle.region_cut.proofs.Membership.{Contains-border_of, Contains-cells_in, Contains-halo_of, Contains-neighbours_of, border_of-Contains, border_of-increasing, cells_in-Contains, cells_in-increasing, connectors_of-increasing, halo_of-increasing, neighbours_of-Contains, neighbours_of-increasing, place-in, region_at-there}

-- a cell of a halo has its place in the border of its region
place-halo : (net : Network) (cut : List ℕ) (r : ℕ) (halo : Halo) → Contains (halo_of net cut r) halo → let border = list_at (map (border_of net cut) (range_with_len 0 (region_count cut))) halo.region in
    (halo.place < length border) × (slice_index border halo.place ≡ halo.cell)
place-halo net cut r halo has =
    let is = Contains-halo_of net cut r halo has in
    let region : halo.region ≡ region_at cut halo.cell = ap (λ other. other.region) is.2 in
    let place : halo.place ≡ (halo_at net cut halo.cell).place = ap (λ other. other.place) is.2 in
    let lists : List (List ℕ) = map (border_of net cut) (range_with_len 0 (region_count cut)) in
    let border : list_at lists halo.region ≡ border_of net cut (region_at cut halo.cell) =
    ap (list_at lists) region ∙ list_at-map (border_of net cut) (region_count cut) (region_at cut halo.cell) (region_at-there cut halo.cell) in
    let stands =
    place-in (border_of net cut (region_at cut halo.cell)) halo.cell (border_of-increasing net cut (region_at cut halo.cell))
    (border_of-Contains net cut (region_at cut halo.cell) halo.cell is.0 refl (halo-border net.connectors cut r halo.cell is.1)) in (
      subst (λ cells. halo.place < length cells) (sym border) (rw place stands.0),
      subst (λ cells. slice_index cells halo.place ≡ halo.cell) (sym border) (rw place stands.1),
    )

chart_of-IsRegion : (net : Network) (cut : List ℕ) (r : ℕ) → length cut ≡ length net.cells → r < region_count cut → IsRegion (chart_of net cut) r
unfolding chart_of
chart_of-IsRegion net cut r one_each within =
    let n : ℕ = region_count cut in
    let cells : list_at (map (cells_in net cut) (range_with_len 0 n)) r ≡ cells_in net cut r = list_at-map (cells_in net cut) n r within in
    let neighbours : list_at (map (neighbours_of net cut) (range_with_len 0 n)) r ≡ neighbours_of net cut r = list_at-map (neighbours_of net cut) n r within in
    let border : list_at (map (border_of net cut) (range_with_len 0 n)) r ≡ border_of net cut r = list_at-map (border_of net cut) n r within in
    let connectors : list_at (map (connectors_of net cut) (range_with_len 0 n)) r ≡ connectors_of net cut r = list_at-map (connectors_of net cut) n r within in
    let halo : list_at (map (halo_of net cut) (range_with_len 0 n)) r ≡ halo_of net cut r = list_at-map (halo_of net cut) n r within in
    record {
      cells = subst IsStrictlyIncreasing (sym cells) (cells_in-increasing net cut r);
      neighbours = subst IsStrictlyIncreasing (sym neighbours) (neighbours_of-increasing net cut r);
      border = subst IsStrictlyIncreasing (sym border) (border_of-increasing net cut r);
      connectors = subst IsStrictlyIncreasing (sym connectors) (connectors_of-increasing net cut r);
      halo = subst (λ others. IsStrictlyIncreasing (map (λ other. other.cell) others)) (sym halo) (halo_of-increasing net cut r);
      own = λ i has.
          let here = Contains-cells_in net cut r i (subst (λ list. Contains list i) cells has) in
          (rw one_each here.0, here.1);
      inside = λ i has.
          let here = Contains-border_of net cut r i (subst (λ list. Contains list i) border has) in
          subst (λ list. Contains list i) (sym cells) (cells_in-Contains net cut r i here.0 here.1);
      others = λ q has.
          let here = Contains-neighbours_of net cut r q (subst (λ list. Contains list q) neighbours has) in
          let by = neighbours-by net.connectors cut r q here.1 in (
            here.0,
            (λ same. by.differ (sym same)),
            subst (λ list. Contains list r) (sym (list_at-map (neighbours_of net cut) n q here.0))
                (neighbours_of-Contains net cut q r within (neighbours-sym net.connectors cut r q here.1)),
          );
      met = λ other has.
          let inside = subst (λ list. Contains list other) halo has in
          let is = Contains-halo_of net cut r other inside in
          let region : other.region ≡ region_at cut other.cell = ap (λ h. h.region) is.2 in
          let near = neighbours_of-Contains net cut r (region_at cut other.cell) (region_at-there cut other.cell) (halo-neighbours net.connectors cut r other.cell is.1) in
          let stands = place-halo net cut r other inside in (
            subst (λ list. Contains list other.region) (sym neighbours) (rw region near),
            sym region,
            stands.0,
            stands.1,
          );
    }

pub chart_of-IsChart : (net : Network) (cut : List ℕ) → length cut ≡ length net.cells → IsCutting (length cut) cut → IsChart (chart_of net cut)
unfolding chart_of
chart_of-IsChart net cut one_each cutting = record {
  cutting = cutting;
  cells = length-map-range_with_len (cells_in net cut) 0 (region_count cut);
  neighbours = length-map-range_with_len (neighbours_of net cut) 0 (region_count cut);
  border = length-map-range_with_len (border_of net cut) 0 (region_count cut);
  connectors = length-map-range_with_len (connectors_of net cut) 0 (region_count cut);
  halo = length-map-range_with_len (halo_of net cut) 0 (region_count cut);
  regions = λ r within. chart_of-IsRegion net cut r one_each within;
}

-- The widths of a chart's regions; those of a network have few enough words for numbers of 32 bits.
use Rattle.std.specs.Prelude.{sum_by, if◌then◌else◌, ◌==◌, ◌&&◌, ◌^◌}
use Rattle.std.specs.List.{range_with_len, sum}
use Rattle.std.proofs.Common.{◌≡◌, ℕ, Bool, true, false, ◌+◌, ◌*◌, ◌<◌, ◌≤◌, List, [], ◌∷◌, length, map, get_or, refl, sym, ap, ◌∙◌, arith}
use Rattle.std.proofs.Math.ListN.{get_or-map}
use Rattle.std.proofs.lemmas.List.{length-map}
use Rattle.std.proofs.lemmas.List.FromFn.{length-range_with_len}
use Rattle.std.proofs.lemmas.List.Sums.{length-filter, sum-map, sum_by-cons, sum_by-le, sum_by-le-sum_by}
use Rattle.std.proofs.lemmas.Simd.{map-map}
use Rattle.step_plan.proofs.Sums.{sum_by-swap, sum_by_agree, sum_by_range_one}
use Rattle.network_file.specs.Network.{Network}
use Rattle.network_file.specs.Sound.{IsNetwork}
use Rattle.network_file.proofs.NetworkFacts.{few_records}
use Rattle.region_cut.specs.Chart.{ChartLists, IsChart, border_of, chart_of, list_at}
use Rattle.region_cut.specs.Cuttings.{region_at, region_count}
use Rattle.region_cut.specs.Neighbours.{is_border}
use Rattle.region_cut.proofs.Cuttings.{region_count-few}
use Rattle.region_cut.proofs.Membership.{region_at-there}
use Rattle.border_rows.specs.Places.{base_of, width_at, widths_of, words_of}
use Rattle.border_rows.proofs.PlaceLaws.{base-le-words, base_more}

pub length-widths_of : (chart : ChartLists) → IsChart chart → length (widths_of chart) ≡ region_count chart.cut
length-widths_of chart sound = length-map chart.border length ∙ sound.border

pub width_at-widths_of : (chart : ChartLists) (r : ℕ) → width_at (widths_of chart) r ≡ length (list_at chart.border r)
width_at-widths_of chart r = get_or-map length chart.border r []

-- two words for each region, and two for each border cell
words_of-sum : (widths : List ℕ) → words_of widths ≡ 2 * length widths + 2 * sum widths
unfolding words_of
words_of-sum [] = refl
words_of-sum (width ∷ widths) = omega (arith, sum_by-cons (λ w. 2 + 2 * w) width widths, sum_by-cons (λ w. w) width widths, words_of-sum widths)

-- cell i counts as a border cell of region r
counted : Network → (cut : List ℕ) → (r i : ℕ) → ℕ
counted net cut r i = if (region_at cut i == r) && is_border net.connectors cut i then 1 else 0

-- it does so for one region at most
counted_once : (net : Network) (cut : List ℕ) (i : ℕ) → sum_by (λ r. counted net cut r i) (range_with_len 0 (region_count cut)) ≤ 1
unfolding counted
counted_once net cut i =
    let regions : List ℕ = range_with_len 0 (region_count cut) in
    let fewer = sum_by-le-sum_by (λ r. counted net cut r i) (λ r. if region_at cut i == r then 1 else 0) regions (λ r. at_most (region_at cut i == r) (is_border net.connectors cut i)) in
    omega (arith, fewer, sum_by_range_one 1 (region_at cut i) 0 (region_count cut) (omega arith) (omega (arith, region_at-there cut i)))
  where
    at_most : (own border : Bool) → (if own && border then 1 else 0) ≤ (if own then 1 else 0)
    at_most true true = omega arith
    at_most true false = omega arith
    at_most false border = omega arith

border_of-counted : (net : Network) (cut : List ℕ) (r : ℕ) → length (border_of net cut r) ≡ sum_by (counted net cut r) (range_with_len 0 (length net.cells))
unfolding border_of counted
border_of-counted net cut r = length-filter (λ i. (region_at cut i == r) && is_border net.connectors cut i) (range_with_len 0 (length net.cells))

-- a network has no more border cells than cells
borders-le-cells : (net : Network) (cut : List ℕ) → sum_by (λ r. length (border_of net cut r)) (range_with_len 0 (region_count cut)) ≤ length net.cells
borders-le-cells net cut =
    let regions : List ℕ = range_with_len 0 (region_count cut) in
    let cells : List ℕ = range_with_len 0 (length net.cells) in
    let count = sum_by_agree (λ r. length (border_of net cut r)) (λ r. sum_by (counted net cut r) cells) regions (border_of-counted net cut) in
    let swapped = sum_by-swap (counted net cut) regions cells in
    let few = sum_by-le (λ i. sum_by (λ r. counted net cut r i) regions) 1 cells (λ k d within. counted_once net cut (get_or cells k d)) in
    omega (arith, count, swapped, few, length-range_with_len 0 (length net.cells))

widths-le-cells : (chart : ChartLists) (net : Network) → chart ≡ chart_of net chart.cut → sum (widths_of chart) ≤ length net.cells
unfolding chart_of
widths-le-cells chart net charted =
    let regions : List ℕ = range_with_len 0 (region_count chart.cut) in
    let border : chart.border ≡ map (border_of net chart.cut) regions = ap (λ (lists : ChartLists). lists.border) charted in
    let widths = ap (λ lists. sum (map length lists)) border ∙ ap sum (map-map length (border_of net chart.cut) regions) ∙ sum-map (λ r. length (border_of net chart.cut r)) regions in
    omega (arith, widths, borders-le-cells net chart.cut)

pub words-fit : (net : Network) (chart : ChartLists) → IsChart chart → IsNetwork net → chart ≡ chart_of net chart.cut → words_of (widths_of chart) < 2 ^ 32
words-fit net chart sound network charted =
    let regions = region_count-few (length chart.cut) chart.cut sound.cutting in
    let cells = network.sound.few_cells in
    omega (
      arith,
      words_of-sum (widths_of chart),
      length-widths_of chart sound,
      regions,
      widths-le-cells chart net charted,
      cells,
      few_records net.format,
    )

-- the words up to those of the next region
pub next_words : (net : Network) (chart : ChartLists) (r words width : ℕ) → IsChart chart → IsNetwork net → chart ≡ chart_of net chart.cut → r < region_count chart.cut →
    words ≡ base_of (widths_of chart) r → width ≡ length (list_at chart.border r) →
    (width ≡ width_at (widths_of chart) r) × (words + 2 + 2 * width ≡ base_of (widths_of chart) (r + 1)) × (words + 2 + 2 * width < 2 ^ 32)
next_words net chart r words width sound network charted within behind wide =
    let widths : List ℕ = widths_of chart in
    let there : r < length widths = omega (arith, length-widths_of chart sound) in
    let own : width ≡ width_at widths r = wide ∙ sym (width_at-widths_of chart r) in
    let next : words + 2 + 2 * width ≡ base_of widths (r + 1) = omega (arith, base_more widths r there) in
    (own, next, omega (arith, base_more widths r there, base-le-words widths r there, words-fit net chart sound network charted))

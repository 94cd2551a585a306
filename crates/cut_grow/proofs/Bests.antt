-- The cutting in the best runs of an order is the best in even runs of it.
use Rattle.std.specs.Prelude.{All, eqb, map, slice_index, sum}
use Rattle.std.specs.List.{AllZip, list_any, range_with_len}
use Rattle.std.proofs.Common.{◌≡◌, ℕ, ◌<◌, ◌≤◌, ◌+◌, ◌-◌, ◌/◌, ◌%◌, List, [], ◌∷◌, length, get_or, inl, inr, sym, ap, subst, ◌∙◌, arith}
use Rattle.std.proofs.lemmas.Grind.{same_number_lists}
use Rattle.std.proofs.lemmas.List.{get_or-map, get_or_default, length-map}
use Rattle.std.proofs.lemmas.List.Elements.{All-contains, All-cons, All-head, All-map, All-nil, All-tail, All-weaker, Contains-get_or}
use Rattle.network_file.specs.Connectors.{cells_of}
use Rattle.network_file.specs.Cutting.{IsCutting, greatest, has_no_gap}
use Rattle.network_file.specs.Limits.{most_regions}
use Rattle.network_file.specs.Network.{Network}
use Rattle.network_file.specs.Sound.{IsNetwork}
use Rattle.network_file.specs.declared.connector.Connector.{Connector}
use Rattle.region_cut.specs.Cuttings.{region_at}
use Rattle.region_cut.proofs.Anys.{test_from_Contains}
use Rattle.region_cut.proofs.Cuttings.{greatest-below}
use Rattle.region_cut.proofs.EvenCutting.{all_pass}
use Rattle.region_cut.proofs.Ranges.{Contains-range}
use Rattle.cut_grow.specs.BestRuns.{AreBestRuns, IsBestIn, IsSize}
use Rattle.cut_grow.specs.CutConnectors.{cuts}
use Rattle.cut_grow.specs.Grown.{runs_from}
use Rattle.cut_grow.specs.Most.{most, start_of}
use Rattle.cut_grow.specs.Orders.{IsPermutation}
use Rattle.cut_grow.specs.Sides.{AreThere}
use Rattle.cut_grow.specs.Spans.{ArePlaces, AreWithin, IsSpan, inside_runs}
use Rattle.cut_grow.specs.declared.sizes.Sizes.{Sizes}
use Rattle.cut_grow.specs.declared.span.Span.{Span}
use Rattle.cut_grow.proofs.Connectors.{connectors-there}
use Rattle.cut_grow.proofs.EvenSizes.{even-counts, even-sizes, floor-some, sizes-even, sizes-whole}
use Rattle.cut_grow.proofs.InsideRuns.{IsByRuns, inside-or-cut}
use Rattle.cut_grow.proofs.MostRuns.{AreSizes, inside-at_most, larges_of, smalls_of}
use Rattle.cut_grow.proofs.RunNumbers.{length-runs_from, runs-each, runs-high}

-- spans lie among the places
pub spans-within : (cells : ℕ) (places : List ℕ) (connectors : List Connector) (spans : List Span) → ((i : ℕ) → i < cells → get_or places i 0 < cells) →
    AreThere cells connectors → AllZip (IsSpan places) connectors spans → AreWithin cells spans
spans-within cells places [] [] inside there zipped = All-nil (λ span. (span.first < cells) × (span.last < cells))
spans-within cells places [] (span ∷ spans) inside there zipped = absurd zipped
spans-within cells places (connector ∷ connectors) [] inside there zipped = absurd zipped
spans-within cells places (connector ∷ connectors) (span ∷ spans) inside there zipped =
    let own = All-head (λ one. All (λ i. i < cells) (cells_of one)) connector connectors there in
    let first = inside zipped.0.first.0 (All-contains (λ i. i < cells) (cells_of connector) zipped.0.first.0 own zipped.0.first.1) in
    let last = inside zipped.0.last.0 (All-contains (λ i. i < cells) (cells_of connector) zipped.0.last.0 own zipped.0.last.1) in
    All-cons (λ s. (s.first < cells) × (s.last < cells)) span spans
    (omega (arith, first, zipped.0.first.2), omega (arith, last, zipped.0.last.2))
    (spans-within cells places connectors spans inside (All-tail (λ one. All (λ i. i < cells) (cells_of one)) connector connectors there) zipped.1)

-- the regions in runs, by cell and by place

by_cell : (cells : ℕ) (order places runs regions : List ℕ) → ArePlaces cells order places → regions ≡ map (slice_index (runs_from 0 runs)) places →
    (i : ℕ) → i < cells → IsByRuns regions places runs i
by_cell cells order places runs regions inverse is i within =
    ap (λ list. region_at list i) is ∙ get_or-map (slice_index (runs_from 0 runs)) places i 0 0 (omega (arith, inverse.long))

by_place : (cells : ℕ) (order places runs regions : List ℕ) → IsPermutation cells order → ArePlaces cells order places → regions ≡ map (slice_index (runs_from 0 runs)) places →
    sum runs ≡ cells → map (region_at regions) order ≡ runs_from 0 runs
by_place cells order places runs regions all inverse is whole =
    same_number_lists (map (region_at regions) order) (runs_from 0 runs)
    (omega (arith, length-map order (region_at regions), all.long, length-runs_from 0 runs, whole))
    (λ p within.
    let below : p < cells = omega (arith, length-map order (region_at regions), all.long) in
    let there : get_or order p 0 < cells = all.there p 0 (omega (arith, all.long)) in
    get_or-map (region_at regions) order p 0 0 (omega (arith, all.long)) ∙ by_cell cells order places runs regions inverse is (get_or order p 0) there ∙
    ap (λ q. get_or (runs_from 0 runs) q 0) (inverse.forth p below))

-- in any cutting in runs the region of a cell is by its place
by_runs : (cells : ℕ) (order places sizes list : List ℕ) → IsPermutation cells order → ArePlaces cells order places → map (region_at list) order ≡ runs_from 0 sizes →
    (i : ℕ) → i < cells → IsByRuns list places sizes i
by_runs cells order places sizes list all inverse is i within =
    let place : ℕ = get_or places i 0 in
    let there : place < cells = inverse.there i within in
    ap (region_at list) (sym (inverse.back i within)) ∙ sym (get_or-map (region_at list) order place 0 0 (omega (arith, all.long))) ∙
    ap (λ regions. get_or regions place 0) is

all_connectors : (cells : ℕ) (connectors : List Connector) (P : ℕ → Type 0) → AreThere cells connectors → ((i : ℕ) → i < cells → P i) →
    All (λ connector. All P (cells_of connector)) connectors
all_connectors cells connectors P there each =
    All-weaker (λ connector. All (λ i. i < cells) (cells_of connector)) (λ connector. All P (cells_of connector))
    (λ connector own. All-weaker (λ i. i < cells) P each (cells_of connector) own) connectors there

-- the regions are a cutting

runs-some : (sizes : Sizes) (runs : List ℕ) → 1 ≤ sizes.floor → All (IsSize sizes) runs → All (λ size. 1 ≤ size) runs
runs-some sizes runs some each = All-weaker (IsSize sizes) (λ size. 1 ≤ size) (λ size either. elim either [
  | inl small ↦ omega (arith, small)
  | inr large ↦ omega (arith, large.0)
]) runs each

pub places-below : (cells : ℕ) (order places : List ℕ) → ArePlaces cells order places → All (λ p. p < cells) places
places-below cells order places inverse = λ k d within.
    let there = inverse.there k (omega (arith, inverse.long)) in omega (arith, there, get_or_default places k d 0 within)

in-runs-cutting : (cells k : ℕ) (order places runs regions : List ℕ) → IsPermutation cells order → ArePlaces cells order places →
    regions ≡ map (slice_index (runs_from 0 runs)) places → sum runs ≡ cells → length runs ≡ k → All (λ size. 1 ≤ size) runs → 1 ≤ k → k ≤ most_regions →
    IsCutting cells regions
unfolding has_no_gap
in-runs-cutting cells k order places runs regions all inverse is whole long some positive few =
    let below : All (λ region. region < k) regions =
    subst (All (λ region. region < k)) (sym is)
    (All-map (λ region. region < k) (slice_index (runs_from 0 runs)) places
    (All-weaker (λ p. p < cells) (λ p. get_or (runs_from 0 runs) p 0 < k)
    (λ p within. omega (arith, runs-high 0 runs p (omega (arith, whole)), long)) places (places-below cells order places inverse))) in
    record {
      one_each = ap length is ∙ length-map places (slice_index (runs_from 0 runs)) ∙ inverse.long;
      few = All-weaker (λ region. region < k) (λ region. region < most_regions) (λ region h. omega arith) regions below;
      no_gap = all_pass (λ r. list_any (eqb r) regions) (range_with_len 0 (greatest regions)) (λ j d inside.
          let r : ℕ = get_or (range_with_len 0 (greatest regions)) j d in
          let early : r < greatest regions = Contains-range (greatest regions) r (Contains-get_or (range_with_len 0 (greatest regions)) j d inside) in
          let has = runs-each 0 runs r some (omega (arith, early, greatest-below regions k positive below, long)) in
          let p : ℕ = has.0 in
          let there : p < cells = omega (arith, has.1, length-runs_from 0 runs, whole) in
          let i : ℕ = get_or order p 0 in
          let cell : i < cells = all.there p 0 (omega (arith, all.long)) in
          let number : r ≡ 0 + r = omega arith in
          let region : get_or regions i 0 ≡ r =
          by_cell cells order places runs regions inverse is i cell ∙ ap (λ q. get_or (runs_from 0 runs) q 0) (inverse.forth p there) ∙
          get_or_default (runs_from 0 runs) p 0 (0 + r) has.1 ∙ has.2 ∙ sym number in
          let inside_list : i < length regions = omega (arith, ap length is, length-map places (slice_index (runs_from 0 runs)), inverse.long) in
          test_from_Contains regions r (i, inside_list, get_or_default regions i r 0 inside_list ∙ region));
    }

-- what a list in runs keeps and what it cuts
kept-or-cut : (net : Network) (order places sizes list : List ℕ) (spans : List Span) → IsNetwork net →
    ((i : ℕ) → i < length net.cells → IsByRuns list places sizes i) → AllZip (IsSpan places) net.connectors spans → AreWithin (length net.cells) spans →
    sum sizes ≡ length net.cells → inside_runs spans 0 sizes + cuts list net ≡ length net.connectors
unfolding cuts
kept-or-cut net order places sizes list spans sound by_place zipped within whole =
    inside-or-cut list places sizes net.connectors spans zipped
    (all_connectors (length net.cells) net.connectors (IsByRuns list places sizes) (connectors-there net sound) by_place)
    (All-weaker (λ span. (span.first < length net.cells) × (span.last < length net.cells)) (λ span. span.last < sum sizes) (λ span both. omega (arith, both.1, whole)) spans within)

pub best-runs : (net : Network) (k : ℕ) (sizes : Sizes) (order places runs regions : List ℕ) (spans : List Span) (kept : ℕ) → IsNetwork net →
    1 ≤ k → k ≤ most_regions → k ≤ length net.cells → IsPermutation (length net.cells) order → ArePlaces (length net.cells) order places →
    AllZip (IsSpan places) net.connectors spans → sizes.floor ≡ length net.cells / k → sizes.smalls ≡ k - length net.cells % k → sizes.larges ≡ length net.cells % k →
    AreBestRuns sizes spans runs → regions ≡ map (slice_index (runs_from 0 runs)) places → kept ≡ most spans sizes.floor sizes.smalls sizes.larges →
    IsBestIn net k order regions kept
best-runs net k sizes order places runs regions spans kept sound some few enough all inverse zipped floor smalls larges best is most_kept =
    let cells : ℕ = length net.cells in
    let same_start : start_of sizes.floor sizes.smalls sizes.larges ≡ start_of (cells / k) (k - cells % k) (cells % k) =
    ap (λ n. start_of n sizes.smalls sizes.larges) floor ∙ ap (λ n. start_of (cells / k) n sizes.larges) smalls ∙ ap (start_of (cells / k) (k - cells % k)) larges in
    let whole : sum runs ≡ cells = best.whole ∙ same_start ∙ sizes-whole cells k some in
    let long : length runs ≡ k = omega (arith, best.long, smalls, larges) in
    let positive : 1 ≤ sizes.floor = omega (arith, floor, floor-some cells k some enough) in
    let within = spans-within cells places net.connectors spans inverse.there (connectors-there net sound) zipped in
    let own : inside_runs spans 0 runs + cuts regions net ≡ length net.connectors =
    kept-or-cut net order places runs regions spans sound (by_cell cells order places runs regions inverse is) zipped within whole in
    record {
      in_runs = record {
        cutting = in-runs-cutting cells k order places runs regions all inverse is whole long (runs-some sizes runs positive best.each) some few;
        sizes = runs;
        one_each = long;
        even = sizes-even cells k sizes runs some floor larges best.each;
        runs = by_place cells order places runs regions all inverse is whole;
      };
      rest = omega (arith, own, best.best, most_kept);
      fewest = λ other in_runs.
          let each : AreSizes (cells / k) in_runs.sizes = even-sizes cells k in_runs.sizes some in_runs.even in
          let their_whole : sum in_runs.sizes ≡ cells =
          sym (length-runs_from 0 in_runs.sizes) ∙ ap length (sym in_runs.runs) ∙ length-map order (region_at other) ∙ all.long in
          let counts = even-counts cells k in_runs.sizes some each in_runs.one_each their_whole in
          let theirs : inside_runs spans 0 in_runs.sizes + cuts other net ≡ length net.connectors =
          kept-or-cut net order places in_runs.sizes other spans sound (by_runs cells order places in_runs.sizes other all inverse in_runs.runs) zipped within their_whole in
          let start : start_of (cells / k) 0 0 ≡ 0 = omega arith in
          let bound = inside-at_most spans (cells / k) in_runs.sizes 0 0 each in
          let small_is : 0 + smalls_of (cells / k) in_runs.sizes ≡ sizes.smalls = omega (arith, counts.0, smalls) in
          let large_is : 0 + larges_of (cells / k) in_runs.sizes ≡ sizes.larges = omega (arith, counts.1, larges) in
          let same : most spans (cells / k) (0 + smalls_of (cells / k) in_runs.sizes) (0 + larges_of (cells / k) in_runs.sizes) ≡ kept =
          ap (λ n. most spans (cells / k) n (0 + larges_of (cells / k) in_runs.sizes)) small_is ∙ ap (most spans (cells / k) sizes.smalls) large_is ∙
          ap (λ n. most spans n sizes.smalls sizes.larges) (sym floor) ∙ sym most_kept in
          omega (arith, bound, same, theirs, ap (λ from. inside_runs spans from in_runs.sizes) start);
    }

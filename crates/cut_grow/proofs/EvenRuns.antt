-- The even cutting is in even runs of the file order.
use Rattle.std.specs.Prelude.{All, map, sum}
use Rattle.std.specs.List.{range_with_len}
use Rattle.std.proofs.Common.{◌≡◌, ℕ, zero, suc, ◌<◌, ◌≤◌, ◌+◌, ◌-◌, ◌*◌, ◌/◌, ◌%◌, List, length, get_or, inl, inr, ap, arith, refl, subst, sym, zero-add, ◌∙◌}
use Rattle.std.proofs.Math.Nat.{div-mul-le_self, lt-div-mul-add, lt_of_mul-lt-mul_right, mul-le-mul_right, mul-lt-mul_of_pos_right}
use Rattle.std.proofs.lemmas.Bool.{cases_eq, cases_lt}
use Rattle.std.proofs.lemmas.Grind.{same_number_lists}
use Rattle.std.proofs.lemmas.List.Elements.{All-map}
use Rattle.std.proofs.lemmas.List.FromFn.{get_or-map-range_with_len, length-map-range_with_len}
use Rattle.std.proofs.lemmas.Nat.{div_below, le-div}
use Rattle.network_file.specs.Cutting.{IsCutting}
use Rattle.network_file.specs.Limits.{most_regions}
use Rattle.network_file.specs.Network.{Network}
use Rattle.region_cut.specs.Cuttings.{even_cutting, region_at}
use Rattle.region_cut.proofs.EvenCutting.{even_cutting-IsCutting, length-even_cutting}
use Rattle.cut_grow.specs.BestRuns.{IsBestIn}
use Rattle.cut_grow.specs.CutConnectors.{cuts}
use Rattle.cut_grow.specs.Grown.{IsCandidate, IsInRuns, runs_from}
use Rattle.cut_grow.specs.Walk.{file_order}
use Rattle.cut_grow.proofs.EvenSizes.{IsEvenSize, ceiling-even, ceiling-more}
use Rattle.cut_grow.proofs.RunNumbers.{behind_first, in_first, length-runs_from, sum-cons}

-- runs that begin at given places: the place before which a run ends is the one at which the next begins

abbrev Rises : (begin : ℕ → ℕ) → Type 0
Rises begin = (i j : ℕ) → i ≤ j → begin i ≤ begin j

abbrev sizes_by : (begin : ℕ → ℕ) → (r n : ℕ) → List ℕ
sizes_by begin r n = map (λ i. begin (i + 1) - begin i) (range_with_len r n)

sizes-sum : (begin : ℕ → ℕ) → Rises begin → (r n : ℕ) → sum (sizes_by begin r n) + begin r ≡ begin (r + n)
sizes-sum begin rises r zero =
    let none : sum (sizes_by begin r zero) ≡ 0 = refl in
    let same : r ≡ r + zero = omega arith in
    omega (arith, none, ap begin same)
sizes-sum begin rises r (suc n) =
    let more = sum-cons (begin (r + 1) - begin r) (sizes_by begin (r + 1) n) in
    let up : begin r ≤ begin (r + 1) = rises r (r + 1) (omega arith) in
    let same : r + 1 + n ≡ r + suc n = omega arith in
    omega (arith, more, up, sizes-sum begin rises (r + 1) n, ap begin same)

number-at : (begin : ℕ → ℕ) → Rises begin → (r n j p : ℕ) → r ≤ j → j < r + n → begin j ≤ p → p < begin (j + 1) →
    get_or (runs_from r (sizes_by begin r n)) (p - begin r) 0 ≡ j
number-at begin rises r zero j p low high after before = absurd (omega arith)
number-at begin rises r (suc n) j p low high after before =
    let rest : List ℕ = sizes_by begin (r + 1) n in
    let up : begin r ≤ begin (r + 1) = rises r (r + 1) (omega arith) in
    let past : begin r ≤ begin j = rises r j low in
    elim (cases_lt r j) [
      | inl later ↦
          let behind : begin (r + 1) ≤ begin j = rises (r + 1) j (omega (arith, later)) in
          let left : p - begin r - (begin (r + 1) - begin r) ≡ p - begin (r + 1) = omega (arith, up, behind, after) in
          behind_first r (begin (r + 1) - begin r) rest (p - begin r) (omega (arith, up, behind, after)) ∙
          ap (λ q. get_or (runs_from (r + 1) rest) q 0) left ∙
          number-at begin rises (r + 1) n j p (omega (arith, later)) (omega (arith, high)) after before
      | inr here ↦
          let same : j ≡ r = omega (arith, here, low) in
          let end : begin (j + 1) ≡ begin (r + 1) = ap (λ i. begin (i + 1)) same in
          in_first r (begin (r + 1) - begin r) rest (p - begin r) (omega (arith, up, past, after, before, end)) ∙ sym same
    ]

-- the first cell of region r of the even cutting
abbrev first_of : (cells k r : ℕ) → ℕ
first_of cells k r = (r * cells + k - 1) / k

first_of-bounds : (cells k r : ℕ) → 1 ≤ k → (r * cells ≤ first_of cells k r * k) × (first_of cells k r * k < r * cells + k)
first_of-bounds cells k r some =
    let above : r * cells + k - 1 < first_of cells k r * k + k = lt-div-mul-add {a = r * cells + k - 1} {b = k} some in
    let below : first_of cells k r * k ≤ r * cells + k - 1 = div-mul-le_self (r * cells + k - 1) k in
    (omega arith, omega arith)

first_of-rises : (cells k : ℕ) → 1 ≤ k → Rises (first_of cells k)
first_of-rises cells k some i j ordered =
    rises (first_of cells k i) (first_of cells k j) (first_of-bounds cells k i some).1 (first_of-bounds cells k j some).0 (mul-le-mul_right {m = i} {n = j} cells ordered)
  where
    rises : (first second : ℕ) → first * k < i * cells + k → j * cells ≤ second * k → i * cells ≤ j * cells → first ≤ second
    rises first second before after product =
        let below : first < second + 1 = lt_of_mul-lt-mul_right k {m = first} {n = second + 1} (omega (arith, before, after, product)) in omega (arith, below)

first_of-none : (cells k : ℕ) → 1 ≤ k → first_of cells k 0 ≡ 0
first_of-none cells k some = none (first_of cells k 0) (first_of-bounds cells k 0 some).1
  where
    none : (first : ℕ) → first * k < 0 * cells + k → first ≡ 0
    none first before =
        let below : first < 1 = lt_of_mul-lt-mul_right k {m = first} {n = 1} (omega (arith, before)) in omega (arith, below)

first_of-all : (cells k : ℕ) → 1 ≤ k → first_of cells k k ≡ cells
first_of-all cells k some = all (first_of cells k k) (first_of-bounds cells k k some).0 (first_of-bounds cells k k some).1
  where
    all : (first : ℕ) → k * cells ≤ first * k → first * k < k * cells + k → first ≡ cells
    all first after before =
        let below : first < cells + 1 = lt_of_mul-lt-mul_right k {m = first} {n = cells + 1} (omega (arith, before)) in
        let above : cells < first + 1 = lt_of_mul-lt-mul_right k {m = cells} {n = first + 1} (omega (arith, after, some)) in
        omega (arith, below, above)

-- the sizes are even
even-size : (cells k r start end size : ℕ) → 1 ≤ k → start + size ≡ end → r * cells ≤ start * k → start * k < r * cells + k →
    (r + 1) * cells ≤ end * k → end * k < (r + 1) * cells + k → IsEvenSize cells k size
even-size cells k r start end size some is start_low start_high end_low end_high =
    let product : (start + size) * k ≡ end * k = ap (λ n. n * k) is in
    let few : size * k ≤ cells + k - 1 = omega (arith, product, start_low, end_high) in
    let many : cells < (size + 1) * k = omega (arith, product, start_high, end_low) in
    let high : size ≤ (cells + k - 1) / k = le-div size (cells + k - 1) k some few in
    let floor : cells / k < size + 1 = lt_of_mul-lt-mul_right k {m = cells / k} {n = size + 1} (omega (arith, div-mul-le_self cells k, many)) in
    elim (cases_eq size (cells / k)) [
      | inl is_floor ↦ inl is_floor
      | inr more ↦ elim (cases_eq (cells % k) 0) [
        | inl even ↦ absurd (omega (arith, more, floor, high, ceiling-even cells k some even))
        | inr odd ↦ inr (omega (arith, more, floor, high, ceiling-more cells k some (omega (arith, odd))))
      ]
    ]

even-sizes_by : (cells k : ℕ) → 1 ≤ k → All (IsEvenSize cells k) (sizes_by (first_of cells k) 0 k)
even-sizes_by cells k some =
    All-map (IsEvenSize cells k) (λ r. first_of cells k (r + 1) - first_of cells k r) (range_with_len 0 k) (λ i d within. each (get_or (range_with_len 0 k) i d))
  where
    each : (r : ℕ) → IsEvenSize cells k (first_of cells k (r + 1) - first_of cells k r)
    each r =
        let start = first_of-bounds cells k r some in
        let end = first_of-bounds cells k (r + 1) some in
        let up : first_of cells k r ≤ first_of cells k (r + 1) = first_of-rises cells k some r (r + 1) (omega arith) in
        even-size cells k r (first_of cells k r) (first_of cells k (r + 1)) (first_of cells k (r + 1) - first_of cells k r) some (omega (arith, up)) start.0 start.1 end.0 end.1

-- the cells of region j
in_region : (cells k p j : ℕ) → 1 ≤ k → j * cells ≤ p * k → p * k < j * cells + cells → (first_of cells k j ≤ p) × (p < first_of cells k (j + 1))
in_region cells k p j some low high =
    within (first_of cells k j) (first_of cells k (j + 1)) (first_of-bounds cells k j some).1 (first_of-bounds cells k (j + 1) some).0
  where
    within : (start end : ℕ) → start * k < j * cells + k → (j + 1) * cells ≤ end * k → (start ≤ p) × (p < end)
    within start end before after =
        let begun : start < p + 1 = lt_of_mul-lt-mul_right k {m = start} {n = p + 1} (omega (arith, before, low)) in
        (omega (arith, begun), lt_of_mul-lt-mul_right k {m = p} {n = end} (omega (arith, after, high)))

even-runs : (cells k : ℕ) → 1 ≤ k → map (region_at (even_cutting cells k)) (range_with_len 0 cells) ≡ runs_from 0 (sizes_by (first_of cells k) 0 k)
unfolding even_cutting
even-runs cells k some =
    let cut : List ℕ = even_cutting cells k in
    let rises = first_of-rises cells k some in
    let none : first_of cells k 0 ≡ 0 = first_of-none cells k some in
    let long : length (runs_from 0 (sizes_by (first_of cells k) 0 k)) ≡ cells =
    runs_long (sum (sizes_by (first_of cells k) 0 k)) (first_of cells k 0) (first_of cells k (0 + k)) (length-runs_from 0 (sizes_by (first_of cells k) 0 k))
    (sizes-sum (first_of cells k) rises 0 k) none (ap (first_of cells k) (zero-add k) ∙ first_of-all cells k some) in
    same_number_lists (map (region_at cut) (range_with_len 0 cells)) (runs_from 0 (sizes_by (first_of cells k) 0 k))
    (length-map-range_with_len (region_at cut) 0 cells ∙ sym long)
    (λ p within.
    let below : p < cells = omega (arith, within, length-map-range_with_len (region_at cut) 0 cells) in
    let number : p * k / cells < k = div_below (p * k) cells k (omega (arith, below)) (omega (arith, mul-lt-mul_of_pos_right {m = p} {n = cells} {k = k} below some)) in
    let here = in_region cells k p (p * k / cells) some (div-mul-le_self (p * k) cells) (lt-div-mul-add {a = p * k} {b = cells} (omega (arith, below))) in
    let place : p - first_of cells k 0 ≡ p = ap (λ n. p - n) none ∙ (omega arith) in
    get_or-map-range_with_len (region_at cut) 0 cells p p 0 below (zero-add p) ∙
    get_or-map-range_with_len (λ i. i * k / cells) 0 cells p p 0 below (zero-add p) ∙
    sym (number-at (first_of cells k) rises 0 k (p * k / cells) p (omega arith) (omega (arith, number)) here.0 here.1) ∙
    ap (λ q. get_or (runs_from 0 (sizes_by (first_of cells k) 0 k)) q 0) place)
  where
    runs_long : (total begin end : ℕ) → {length : ℕ} → length ≡ total → total + begin ≡ end → begin ≡ 0 → end ≡ cells → length ≡ cells
    runs_long total begin end is whole none all = omega (arith, is, whole, none, all)

even-in_runs : (net : Network) (k : ℕ) → 1 ≤ k → k ≤ most_regions → k ≤ length net.cells → IsInRuns net k (file_order net) (even_cutting (length net.cells) k)
even-in_runs net k some few enough = record {
  cutting = subst (λ cells. IsCutting cells (even_cutting (length net.cells) k)) (length-even_cutting (length net.cells) k) (even_cutting-IsCutting (length net.cells) k some few enough);
  sizes = sizes_by (first_of (length net.cells) k) 0 k;
  one_each = length-map-range_with_len (λ r. first_of (length net.cells) k (r + 1) - first_of (length net.cells) k r) 0 k;
  even = even-sizes_by (length net.cells) k some;
  runs = even-runs (length net.cells) k some;
}

-- so it is a candidate
pub even-candidate : (net : Network) (k : ℕ) → 1 ≤ k → k ≤ most_regions → k ≤ length net.cells → IsCandidate net k (even_cutting (length net.cells) k)
even-candidate net k some few enough = inl (even-in_runs net k some few enough)

-- and a list that keeps as many connectors as the best in runs of the file order, or more, cuts no more than it
pub best-no_more : (net : Network) (k : ℕ) (order best list : List ℕ) (least kept : ℕ) → 1 ≤ k → k ≤ most_regions → k ≤ length net.cells →
    order ≡ file_order net → IsBestIn net k order best least → least ≤ kept → cuts list net + kept ≡ length net.connectors →
    cuts list net ≤ cuts (even_cutting (length net.cells) k) net
best-no_more net k order best list least kept some few enough is in_file more rest =
    let even : IsInRuns net k order (even_cutting (length net.cells) k) =
    subst (λ cells. IsInRuns net k cells (even_cutting (length net.cells) k)) (sym is) (even-in_runs net k some few enough) in
    omega (arith, more, rest, in_file.fewest (even_cutting (length net.cells) k) even)

-- The even cutting is a cutting.
use Rattle.std.specs.Prelude.{All, eqb}
use Rattle.std.specs.List.{Contains, list_all, list_any, range_with_len}
use Rattle.std.proofs.Common.{◌≡◌, ℕ, ◌<◌, ◌≤◌, ◌+◌, ◌-◌, ◌*◌, ◌/◌, true, List, [], ◌∷◌, length, map, get_or, refl, ◌∙◌, arith, zero-add, Bool}
use Rattle.std.proofs.Math.Nat.{div-eq_of_lt-le, lt-div-mul-add, div-mul-le_self, lt_of_mul-lt-mul_right, mul-lt-mul_of_pos_right, mul-le-mul_left}
use Rattle.std.proofs.lemmas.Nat.{div_below}
use Rattle.std.proofs.lemmas.List.FromFn.{get_or-map-range_with_len, length-map-range_with_len}
use Rattle.std.proofs.lemmas.List.Elements.{All-head, All-tail, All-weaker, Contains-get_or}
use Rattle.network_file.specs.Cutting.{IsCutting, greatest, has_no_gap}
use Rattle.network_file.specs.Limits.{most_regions}
use Rattle.region_cut.specs.Cuttings.{even_cutting}
use Rattle.region_cut.proofs.Anys.{test_from_Contains}
use Rattle.region_cut.proofs.Cuttings.{greatest-below}
use Rattle.region_cut.proofs.Ranges.{Contains-range}

pub all_pass : {X : Type 0} (p : X → Bool) (xs : List X) → All (λ x. p x ≡ true) xs → list_all p xs ≡ true
all_pass p [] each = refl
all_pass p (x ∷ xs) each = rw (All-head (λ y. p y ≡ true) x xs each) (all_pass p xs (All-tail (λ y. p y ≡ true) x xs each))

even_below : (cells k i : ℕ) → i < cells → 1 ≤ k → i * k / cells < k
even_below cells k i within some = div_below (i * k) cells k (omega arith) (omega (arith, mul-lt-mul_of_pos_right {m = i} {n = cells} {k = k} within some))

even_regions : (cells k : ℕ) → 1 ≤ k → All (λ region. region < k) (map (λ i. i * k / cells) (range_with_len 0 cells))
even_regions cells k some = λ j d within.
    let inside : j < cells = rw (length-map-range_with_len (λ i. i * k / cells) 0 cells) at within in
    rw (get_or-map-range_with_len (λ i. i * k / cells) 0 cells j j d inside (zero-add j)) (even_below cells k j inside some)

-- the first cell of region r
abbrev first_of : (cells k r : ℕ) → ℕ
first_of cells k r = (r * cells + k - 1) / k

first_of-bounds : (cells k r : ℕ) → 1 ≤ k → (r * cells ≤ first_of cells k r * k) × (first_of cells k r * k < r * cells + k)
first_of-bounds cells k r some =
    let above : r * cells + k - 1 < first_of cells k r * k + k = lt-div-mul-add {a = r * cells + k - 1} {b = k} some in
    let below : first_of cells k r * k ≤ r * cells + k - 1 = div-mul-le_self (r * cells + k - 1) k in
    (omega arith, omega arith)

first_of-within : (cells k r : ℕ) → 1 ≤ k → k ≤ cells → r < k → first_of cells k r < cells
first_of-within cells k r some few within =
    let bounds = first_of-bounds cells k r some in
    let room : cells * (r + 1) ≤ cells * k = mul-le-mul_left {m = r + 1} {n = k} cells (omega arith) in
    lt_of_mul-lt-mul_right k {m = first_of cells k r} {n = cells} (omega (arith, bounds.1, room))

first_of-region : (cells k r : ℕ) → 1 ≤ k → k ≤ cells → r < k → first_of cells k r * k / cells ≡ r
first_of-region cells k r some few within =
    let bounds = first_of-bounds cells k r some in
    div-eq_of_lt-le {k = r} cells {m = first_of cells k r * k} bounds.0 (omega (arith, bounds.1))

-- each region has a cell
has_cell : (cells k r : ℕ) → 1 ≤ k → k ≤ cells → r < k → Contains (map (λ i. i * k / cells) (range_with_len 0 cells)) r
has_cell cells k r some few within =
    let i : ℕ = first_of cells k r in
    let there : i < cells = first_of-within cells k r some few within in (
      i,
      rw (length-map-range_with_len (λ j. j * k / cells) 0 cells) there,
      get_or-map-range_with_len (λ j. j * k / cells) 0 cells i i r there (zero-add i) ∙ first_of-region cells k r some few within,
    )

pub even_cutting-IsCutting : (cells k : ℕ) → 1 ≤ k → k ≤ most_regions → k ≤ cells → IsCutting (length (even_cutting cells k)) (even_cutting cells k)
unfolding even_cutting has_no_gap
even_cutting-IsCutting cells k some few within =
    let regions : List ℕ = map (λ i. i * k / cells) (range_with_len 0 cells) in
    let below : All (λ region. region < k) regions = even_regions cells k some in
    record {
      one_each = refl;
      few = All-weaker (λ region. region < k) (λ region. region < most_regions) (λ region h. omega arith) regions below;
      no_gap =
          all_pass (λ r. list_any (eqb r) regions) (range_with_len 0 (greatest regions))
          (λ j r inside.
          let at : ℕ = get_or (range_with_len 0 (greatest regions)) j r in
          let early : at < greatest regions = Contains-range (greatest regions) at (Contains-get_or (range_with_len 0 (greatest regions)) j r inside) in
          test_from_Contains regions at (has_cell cells k at some within (omega (arith, early, greatest-below regions k some below))));
    }

pub length-even_cutting : (cells k : ℕ) → length (even_cutting cells k) ≡ cells
unfolding even_cutting
length-even_cutting cells k = length-map-range_with_len (λ i. i * k / cells) 0 cells

-- Even sizes: the floor of cells by k, and one more for as many runs as remain.
use Rattle.std.specs.Prelude.{All, sum}
use Rattle.std.proofs.Common.{◌≡◌, ◌⊎◌, ℕ, ◌≤◌, ◌+◌, ◌-◌, ◌*◌, ◌/◌, ◌%◌, List, length, inl, inr, sym, ap, ◌∙◌, arith}
use Rattle.std.proofs.Math.Nat.{div-eq_of_lt-le}
use Rattle.std.proofs.lemmas.Bool.{cases_eq}
use Rattle.std.proofs.lemmas.List.Elements.{All-weaker}
use Rattle.cut_grow.specs.BestRuns.{IsSize}
use Rattle.cut_grow.specs.Most.{start_of}
use Rattle.cut_grow.specs.declared.sizes.Sizes.{Sizes}
use Rattle.cut_grow.proofs.MostRuns.{AreSizes, larges_of, sizes-sum, smalls_of}

pub ceiling-even : (cells k : ℕ) → 1 ≤ k → cells % k ≡ 0 → (cells + k - 1) / k ≡ cells / k
ceiling-even cells k some none = div-eq_of_lt-le {k = cells / k} k {m = cells + k - 1} (omega arith) (omega arith)

pub ceiling-more : (cells k : ℕ) → 1 ≤ k → 1 ≤ cells % k → (cells + k - 1) / k ≡ cells / k + 1
ceiling-more cells k some more = div-eq_of_lt-le {k = cells / k + 1} k {m = cells + k - 1} (omega arith) (omega arith)

-- no run is empty
pub floor-some : (cells k : ℕ) → 1 ≤ k → k ≤ cells → 1 ≤ cells / k
floor-some cells k some enough = elim (cases_eq (cells / k) 0) [
  | inl none ↦ let product : k * (cells / k) ≡ k * 0 = ap (λ n. k * n) none in absurd (omega (arith, product))
  | inr more ↦ omega (arith, more)
]

-- what the runs make up
pub sizes-whole : (cells k : ℕ) → 1 ≤ k → start_of (cells / k) (k - cells % k) (cells % k) ≡ cells
sizes-whole cells k some =
    let less : cells % k ≤ k = omega arith in
    whole (cells / k) (cells % k) (k - cells % k) k cells (omega arith) (omega arith)
  where
    whole : (floor larges smalls k cells : ℕ) → smalls + larges ≡ k → k * floor + larges ≡ cells → start_of floor smalls larges ≡ cells
    whole floor larges smalls k cells all is =
        let product : k * floor ≡ (smalls + larges) * floor = ap (λ n. n * floor) (sym all) in omega (arith, product)

-- the floor or the ceiling of cells by k
abbrev pub IsEvenSize : (cells k size : ℕ) → Type 0
IsEvenSize cells k size = (size ≡ cells / k) ⊎ (size ≡ (cells + k - 1) / k)

pub even-sizes : (cells k : ℕ) (sizes : List ℕ) → 1 ≤ k → All (IsEvenSize cells k) sizes → AreSizes (cells / k) sizes
even-sizes cells k sizes some each =
    All-weaker (IsEvenSize cells k) (λ size. (size ≡ cells / k) ⊎ (size ≡ cells / k + 1)) (λ size either. elim either [
      | inl floor ↦ inl floor
      | inr ceiling ↦ elim (cases_eq (cells % k) 0) [
        | inl even ↦ inl (ceiling ∙ ceiling-even cells k some even)
        | inr more ↦ inr (ceiling ∙ ceiling-more cells k some (omega arith))
      ]
    ]) sizes each

pub sizes-even : (cells k : ℕ) (sizes : Sizes) (runs : List ℕ) → 1 ≤ k → sizes.floor ≡ cells / k → sizes.larges ≡ cells % k → All (IsSize sizes) runs →
    All (IsEvenSize cells k) runs
sizes-even cells k sizes runs some floor larges each =
    All-weaker (IsSize sizes) (IsEvenSize cells k) (λ size either. elim either [
      | inl small ↦ inl (small ∙ floor)
      | inr large ↦ inr (large.0 ∙ ap (λ n. n + 1) floor ∙ sym (ceiling-more cells k some (omega (arith, large.1))))
    ]) runs each

-- how many runs of a candidate are small and how many large
pub even-counts : (cells k : ℕ) (sizes : List ℕ) → 1 ≤ k → AreSizes (cells / k) sizes → length sizes ≡ k → sum sizes ≡ cells →
    (smalls_of (cells / k) sizes ≡ k - cells % k) × (larges_of (cells / k) sizes ≡ cells % k)
even-counts cells k sizes some each long whole =
    let counts = sizes-sum (cells / k) sizes each in
    let product : length sizes * (cells / k) ≡ k * (cells / k) = ap (λ n. n * (cells / k)) long in
    let larges : larges_of (cells / k) sizes ≡ cells % k = omega (arith, counts.0, product) in
    (omega (arith, counts.1, larges), larges)

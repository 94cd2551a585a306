-- The numbers of runs: how many there are, that they rise, and that each run has its number.
use Rattle.std.specs.Prelude.{All, replicate, sum}
use Rattle.std.specs.List.{Contains}
use Rattle.std.proofs.Common.{◌≡◌, ℕ, zero, suc, ◌<◌, ◌≤◌, ◌+◌, ◌-◌, List, [], ◌∷◌, ◌++◌, length, get_or, inl, inr, sym, refl, ap, subst, ◌∙◌, arith}
use Rattle.std.proofs.lemmas.Bool.{cases_lt}
use Rattle.std.proofs.lemmas.List.{append-nil, append_assoc, get_or-append_right, get_or-replicate, get_or_append_left, length-append, length-replicate}
use Rattle.std.proofs.lemmas.List.Elements.{All-head, All-tail, Contains-append_left, Contains-append_right}
use Rattle.std.proofs.lemmas.List.Sums.{sum_by-cons}
use Rattle.cut_grow.specs.Grown.{runs_from}

pub sum-cons : (x : ℕ) (xs : List ℕ) → sum (x ∷ xs) ≡ x + sum xs
sum-cons x xs = sum_by-cons (λ y. y) x xs

pub length-runs_from : (r : ℕ) (sizes : List ℕ) → length (runs_from r sizes) ≡ sum sizes
length-runs_from r [] = refl
length-runs_from r (size ∷ sizes) =
    omega (arith, length-append (replicate size r) (runs_from (r + 1) sizes), length-replicate size r, length-runs_from (r + 1) sizes, sum-cons size sizes)

-- the number at a place of the first run, or behind it
pub in_first : (r size : ℕ) (sizes : List ℕ) (p : ℕ) → p < size → get_or (runs_from r (size ∷ sizes)) p 0 ≡ r
in_first r size sizes p within =
    get_or_append_left (replicate size r) (runs_from (r + 1) sizes) 0 p (omega (arith, length-replicate size r)) ∙ get_or-replicate size p r 0 within

pub behind_first : (r size : ℕ) (sizes : List ℕ) (p : ℕ) → size ≤ p → get_or (runs_from r (size ∷ sizes)) p 0 ≡ get_or (runs_from (r + 1) sizes) (p - size) 0
behind_first r size sizes p past = get_or-append_right (replicate size r) (runs_from (r + 1) sizes) size p 0 (length-replicate size r) past

pub runs-low : (r : ℕ) (sizes : List ℕ) (p : ℕ) → p < sum sizes → r ≤ get_or (runs_from r sizes) p 0
runs-low r [] p within = absurd (omega arith)
runs-low r (size ∷ sizes) p within = elim (cases_lt p size) [
  | inl first ↦ omega (arith, in_first r size sizes p first)
  | inr behind ↦
      omega (arith, behind_first r size sizes p behind, runs-low (r + 1) sizes (p - size) (omega (arith, sum-cons size sizes)))
]

pub runs-high : (r : ℕ) (sizes : List ℕ) (p : ℕ) → p < sum sizes → get_or (runs_from r sizes) p 0 < r + length sizes
runs-high r [] p within = absurd (omega arith)
runs-high r (size ∷ sizes) p within = elim (cases_lt p size) [
  | inl first ↦ omega (arith, in_first r size sizes p first)
  | inr behind ↦
      omega (arith, behind_first r size sizes p behind, runs-high (r + 1) sizes (p - size) (omega (arith, sum-cons size sizes)))
]

pub runs-rise : (r : ℕ) (sizes : List ℕ) (p q : ℕ) → p ≤ q → q < sum sizes → get_or (runs_from r sizes) p 0 ≤ get_or (runs_from r sizes) q 0
runs-rise r [] p q ordered within = absurd (omega arith)
runs-rise r (size ∷ sizes) p q ordered within = elim (cases_lt q size) [
  | inl first ↦ omega (arith, in_first r size sizes p (omega arith), in_first r size sizes q first)
  | inr behind ↦
      let rest : q - size < sum sizes = omega (arith, sum-cons size sizes) in
      elim (cases_lt p size) [
        | inl before ↦ omega (arith, in_first r size sizes p before, behind_first r size sizes q behind, runs-low (r + 1) sizes (q - size) rest)
        | inr both ↦
            omega (arith, behind_first r size sizes p both, behind_first r size sizes q behind, runs-rise (r + 1) sizes (p - size) (q - size) (omega arith) rest)
      ]
]

-- each run has its number, where none is empty
pub runs-each : (r : ℕ) (sizes : List ℕ) (j : ℕ) → All (λ size. 1 ≤ size) sizes → j < length sizes → Contains (runs_from r sizes) (r + j)
runs-each r [] j some within = absurd (omega arith)
runs-each r (size ∷ sizes) zero some within =
    let first : 1 ≤ size = All-head (λ s. 1 ≤ s) size sizes some in
    Contains-append_left (replicate size r) (runs_from (r + 1) sizes) (r + 0)
    (0, omega (arith, length-replicate size r), get_or-replicate size 0 r (r + 0) (omega arith) ∙ (omega arith))
runs-each r (size ∷ sizes) (suc j) some within =
    let is : r + 1 + j ≡ r + suc j = omega arith in
    Contains-append_right (replicate size r) (runs_from (r + 1) sizes) (r + suc j)
    (subst (Contains (runs_from (r + 1) sizes)) is (runs-each (r + 1) sizes j (All-tail (λ s. 1 ≤ s) size sizes some) (omega arith)))

-- one run more
pub runs_from-push : (r : ℕ) (sizes : List ℕ) (size : ℕ) → runs_from r (sizes ++ size ∷ []) ≡ runs_from r sizes ++ replicate size (r + length sizes)
runs_from-push r [] size =
    let is : r ≡ r + 0 = omega arith in
    append-nil (replicate size r) ∙ ap (replicate size) is
runs_from-push r (first ∷ sizes) size =
    let is : r + 1 + length sizes ≡ r + suc (length sizes) = omega arith in
    ap (λ rest. replicate first r ++ rest) (runs_from-push (r + 1) sizes size ∙ ap (λ n. runs_from (r + 1) sizes ++ replicate size n) is) ∙
    sym (append_assoc (replicate first r) (runs_from (r + 1) sizes) (replicate size (r + suc (length sizes))))

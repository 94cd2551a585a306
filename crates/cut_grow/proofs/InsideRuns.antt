-- A connector lies inside a run, or the cutting in these runs cuts it.
use Rattle.std.specs.Prelude.{All, cond, count_by, eqb, nat_le, nat_lt, not, sum, ◌==◌}
use Rattle.std.specs.List.{AllZip, list_any}
use Rattle.std.proofs.Common.{◌≡◌, ℕ, ◌<◌, ◌≤◌, ◌+◌, ◌-◌, true, false, List, [], ◌∷◌, ◌++◌, length, get_or, take, inl, inr, sym, refl, ap, subst, ◌∙◌, arith}
use Rattle.std.proofs.lemmas.Bool.{and_from, and_left, and_right, cases_eq, cases_lt, eq-eqb, le-leb, le-ltb, lt-leb, lt-ltb, ne_eqb}
use Rattle.std.proofs.lemmas.List.{take_more}
use Rattle.std.proofs.lemmas.List.Elements.{All-contains, All-head, All-tail}
use Rattle.std.proofs.lemmas.List.Folds.{list_any_none}
use Rattle.step_plan.proofs.Sums.{count_by-cons}
use Rattle.network_file.specs.Connectors.{cells_of}
use Rattle.network_file.specs.declared.connector.Connector.{Connector}
use Rattle.region_cut.specs.Cuttings.{region_at}
use Rattle.region_cut.specs.Joins.{crosses}
use Rattle.region_cut.proofs.Anys.{finds}
use Rattle.cut_grow.specs.Grown.{runs_from}
use Rattle.cut_grow.specs.Spans.{IsSpan, inside, inside_runs, is_inside}
use Rattle.cut_grow.specs.declared.span.Span.{Span}
use Rattle.cut_grow.proofs.Counted.{counted, uncounted}
use Rattle.cut_grow.proofs.RunNumbers.{behind_first, in_first, runs-low, runs-rise, sum-cons}

one_inside : (from size : ℕ) (span : Span) → is_inside from size span ≡ true → inside (span ∷ []) from size ≡ 1
one_inside from size span is = omega (arith, count_by-cons (is_inside from size) span [], counted (is_inside from size span) is)

one_outside : (from size : ℕ) (span : Span) → is_inside from size span ≡ false → inside (span ∷ []) from size ≡ 0
one_outside from size span is = omega (arith, count_by-cons (is_inside from size) span [], uncounted (is_inside from size span) is)

-- no run behind its first place has it
none-behind : (span : Span) (from : ℕ) (sizes : List ℕ) → span.first < from → inside_runs (span ∷ []) from sizes ≡ 0
none-behind span from [] before = refl
none-behind span from (size ∷ sizes) before =
    let outside : is_inside from size span ≡ false =
    and_left (nat_le from span.first) (nat_lt span.last (from + size)) (lt-leb from span.first before) in
    omega (arith, one_outside from size span outside, none-behind span (from + size) sizes (omega arith))

-- one run has it where its first and last place are of one run, and else none
contained : (span : Span) (sizes : List ℕ) (r from : ℕ) → from ≤ span.first → span.first ≤ span.last → span.last < from + sum sizes →
    inside_runs (span ∷ []) from sizes ≡ cond (eqb (get_or (runs_from r sizes) (span.first - from) 0) (get_or (runs_from r sizes) (span.last - from) 0)) 1 0
contained span [] r from begins ordered ends = absurd (omega arith)
contained span (size ∷ sizes) r from begins ordered ends =
    let first : ℕ = get_or (runs_from r (size ∷ sizes)) (span.first - from) 0 in
    let last : ℕ = get_or (runs_from r (size ∷ sizes)) (span.last - from) 0 in
    elim (cases_lt span.last (from + size)) [
      | inl within ↦
          let inside_first : is_inside from size span ≡ true =
          and_from (nat_le from span.first) (nat_lt span.last (from + size)) (le-leb from span.first begins) (lt-ltb span.last (from + size) within) in
          let first_is : first ≡ r = in_first r size sizes (span.first - from) (omega arith) in
          let last_is : last ≡ r = in_first r size sizes (span.last - from) (omega arith) in
          omega (
            arith,
            one_inside from size span inside_first,
            none-behind span (from + size) sizes (omega arith),
            counted (eqb first last) (eq-eqb first last (first_is ∙ sym last_is)),
          )
      | inr past ↦
          let outside : is_inside from size span ≡ false =
          and_right (nat_le from span.first) (nat_lt span.last (from + size)) (le-ltb span.last (from + size) past) in
          let last_is : last ≡ get_or (runs_from (r + 1) sizes) (span.last - from - size) 0 = behind_first r size sizes (span.last - from) (omega arith) in
          elim (cases_lt span.first (from + size)) [
            | inl across ↦
                let first_is : first ≡ r = in_first r size sizes (span.first - from) (omega arith) in
                let low : r + 1 ≤ get_or (runs_from (r + 1) sizes) (span.last - from - size) 0 =
                runs-low (r + 1) sizes (span.last - from - size) (omega (arith, sum-cons size sizes)) in
                omega (
                  arith,
                  one_outside from size span outside,
                  none-behind span (from + size) sizes across,
                  uncounted (eqb first last) (ne_eqb first last (λ same. omega (arith, same, first_is, last_is, low))),
                )
            | inr behind ↦
                let first_is : first ≡ get_or (runs_from (r + 1) sizes) (span.first - from - size) 0 = behind_first r size sizes (span.first - from) (omega arith) in
                let first_place : span.first - from - size ≡ span.first - (from + size) = omega arith in
                let last_place : span.last - from - size ≡ span.last - (from + size) = omega arith in
                let first_same : first ≡ get_or (runs_from (r + 1) sizes) (span.first - (from + size)) 0 = first_is ∙ ap (λ p. get_or (runs_from (r + 1) sizes) p 0) first_place in
                let last_same : last ≡ get_or (runs_from (r + 1) sizes) (span.last - (from + size)) 0 = last_is ∙ ap (λ p. get_or (runs_from (r + 1) sizes) p 0) last_place in
                let rest = contained span sizes (r + 1) (from + size) behind ordered (omega (arith, sum-cons size sizes)) in
                let count : ℕ → ℕ → ℕ = λ a b. cond (eqb a b) 1 0 in
                let tested : count first last ≡ count (get_or (runs_from (r + 1) sizes) (span.first - (from + size)) 0) (get_or (runs_from (r + 1) sizes) (span.last - (from + size)) 0) =
                ap (λ n. count n last) first_same ∙ ap (count (get_or (runs_from (r + 1) sizes) (span.first - (from + size)) 0)) last_same in
                omega (arith, one_outside from size span outside, rest, tested)
          ]
    ]

-- spans one by one

inside-cons : (span : Span) (spans : List Span) (from size : ℕ) → inside (span ∷ spans) from size ≡ inside (span ∷ []) from size + inside spans from size
inside-cons span spans from size = omega (arith, count_by-cons (is_inside from size) span spans, count_by-cons (is_inside from size) span [])

inside_runs-cons : (span : Span) (spans : List Span) (from : ℕ) (sizes : List ℕ) →
    inside_runs (span ∷ spans) from sizes ≡ inside_runs (span ∷ []) from sizes + inside_runs spans from sizes
inside_runs-cons span spans from [] = refl
inside_runs-cons span spans from (size ∷ sizes) =
    omega (arith, inside-cons span spans from size, inside_runs-cons span spans (from + size) sizes)

inside_runs-none : (from : ℕ) (sizes : List ℕ) → inside_runs [] from sizes ≡ 0
inside_runs-none from [] = refl
inside_runs-none from (size ∷ sizes) = omega (arith, inside_runs-none (from + size) sizes)

-- the region of a cell is the number of the run in which it stands
abbrev pub IsByRuns : (list places sizes : List ℕ) → (i : ℕ) → Type 0
IsByRuns list places sizes i = region_at list i ≡ get_or (runs_from 0 sizes) (get_or places i 0) 0

stays : (list places sizes : List ℕ) (connector : Connector) (span : Span) → IsSpan places connector span → span.last < sum sizes →
    All (IsByRuns list places sizes) (cells_of connector) → get_or (runs_from 0 sizes) span.first 0 ≡ get_or (runs_from 0 sizes) span.last 0 → crosses list connector ≡ false
stays list places sizes connector span is within by_runs same =
    let number : ℕ → ℕ = λ p. get_or (runs_from 0 sizes) p 0 in
    let one : (k d : ℕ) → k < length (cells_of connector) → region_at list (get_or (cells_of connector) k d) ≡ number span.first =
    λ k d there.
    let i : ℕ = get_or (cells_of connector) k d in
    let around = is.around k d there in
    let below = runs-rise 0 sizes span.first (get_or places i 0) around.0 (omega (arith, around.1)) in
    let above = runs-rise 0 sizes (get_or places i 0) span.last around.1 within in
    omega (arith, by_runs k d there, below, above, same) in
    list_any_none (λ i. list_any (λ j. not (region_at list i == region_at list j)) (cells_of connector)) (cells_of connector) (λ k d there.
    let i : ℕ = get_or (cells_of connector) k d in
    list_any_none (λ j. not (region_at list i == region_at list j)) (cells_of connector) (λ m e other.
    let j : ℕ = get_or (cells_of connector) m e in
    ap not (eq-eqb (region_at list i) (region_at list j) (one k d there ∙ sym (one m e other)))))

parted : (list places sizes : List ℕ) (connector : Connector) (span : Span) → IsSpan places connector span →
    All (IsByRuns list places sizes) (cells_of connector) → (get_or (runs_from 0 sizes) span.first 0 ≡ get_or (runs_from 0 sizes) span.last 0 → ⊥) → crosses list connector ≡ true
parted list places sizes connector span is by_runs differ =
    let i : ℕ = is.first.0 in
    let j : ℕ = is.last.0 in
    let at_first = All-contains (IsByRuns list places sizes) (cells_of connector) i by_runs is.first.1 in
    let at_last = All-contains (IsByRuns list places sizes) (cells_of connector) j by_runs is.last.1 in
    let first : region_at list i ≡ get_or (runs_from 0 sizes) span.first 0 = at_first ∙ ap (λ p. get_or (runs_from 0 sizes) p 0) is.first.2 in
    let last : region_at list j ≡ get_or (runs_from 0 sizes) span.last 0 = at_last ∙ ap (λ p. get_or (runs_from 0 sizes) p 0) is.last.2 in
    finds (λ a. list_any (λ b. not (region_at list a == region_at list b)) (cells_of connector)) (cells_of connector) i is.first.1
    (finds (λ b. not (region_at list i == region_at list b)) (cells_of connector) j is.last.1
    (ap not (ne_eqb (region_at list i) (region_at list j) (λ same. differ (sym first ∙ same ∙ last)))))

-- a connector, inside or cut
one-or-other : (list places sizes : List ℕ) (connector : Connector) (span : Span) → IsSpan places connector span → span.last < sum sizes →
    All (IsByRuns list places sizes) (cells_of connector) → inside_runs (span ∷ []) 0 sizes + cond (crosses list connector) 1 0 ≡ 1
one-or-other list places sizes connector span is within by_runs =
    let around = All-contains (λ i. (span.first ≤ get_or places i 0) × (get_or places i 0 ≤ span.last)) (cells_of connector) is.last.0 is.around is.last.1 in
    let ordered : span.first ≤ span.last = omega (arith, around.0, around.1) in
    let first_place : span.first - 0 ≡ span.first = omega arith in
    let last_place : span.last - 0 ≡ span.last = omega arith in
    let first : ℕ = get_or (runs_from 0 sizes) span.first 0 in
    let last : ℕ = get_or (runs_from 0 sizes) span.last 0 in
    let count : ℕ → ℕ → ℕ = λ a b. cond (eqb a b) 1 0 in
    let has : inside_runs (span ∷ []) 0 sizes ≡ count first last =
    contained span sizes 0 0 (omega arith) ordered (omega arith) ∙
    ap (λ p. count (get_or (runs_from 0 sizes) p 0) (get_or (runs_from 0 sizes) (span.last - 0) 0)) first_place ∙
    ap (λ p. count first (get_or (runs_from 0 sizes) p 0)) last_place in
    elim (cases_eq first last) [
      | inl same ↦
          omega (
            arith,
            has,
            counted (eqb first last) (eq-eqb first last same),
            uncounted (crosses list connector) (stays list places sizes connector span is within by_runs same),
          )
      | inr differ ↦
          omega (
            arith,
            has,
            uncounted (eqb first last) (ne_eqb first last differ),
            counted (crosses list connector) (parted list places sizes connector span is by_runs differ),
          )
    ]

-- all connectors are inside or cut
pub inside-or-cut : (list places sizes : List ℕ) (connectors : List Connector) (spans : List Span) → AllZip (IsSpan places) connectors spans →
    All (λ connector. All (IsByRuns list places sizes) (cells_of connector)) connectors → All (λ span. span.last < sum sizes) spans →
    inside_runs spans 0 sizes + count_by (crosses list) connectors ≡ length connectors
inside-or-cut list places sizes [] [] zipped by_runs within = omega (arith, inside_runs-none 0 sizes)
inside-or-cut list places sizes [] (span ∷ spans) zipped by_runs within = absurd zipped
inside-or-cut list places sizes (connector ∷ connectors) [] zipped by_runs within = absurd zipped
inside-or-cut list places sizes (connector ∷ connectors) (span ∷ spans) zipped by_runs within =
    omega (
      arith,
      inside_runs-cons span spans 0 sizes,
      count_by-cons (crosses list) connector connectors,
      one-or-other list places sizes connector span zipped.0 (All-head (λ s. s.last < sum sizes) span spans within)
          (All-head (λ one. All (IsByRuns list places sizes) (cells_of one)) connector connectors by_runs),
      inside-or-cut list places sizes connectors spans zipped.1 (All-tail (λ one. All (IsByRuns list places sizes) (cells_of one)) connector connectors by_runs)
          (All-tail (λ s. s.last < sum sizes) span spans within),
    )

zip_push : {X Y : Type 0} (R : X → Y → Type 0) (xs : List X) (ys : List Y) (x : X) (y : Y) → AllZip R xs ys → R x y → AllZip R (xs ++ x ∷ []) (ys ++ y ∷ [])
zip_push R [] [] x y before here = (here, tt)
zip_push R [] (b ∷ ys) x y before here = absurd before
zip_push R (a ∷ xs) [] x y before here = absurd before
zip_push R (a ∷ xs) (b ∷ ys) x y before here = (before.0, zip_push R xs ys x y before.1 here)

-- one pair more
pub zip_more : {X Y : Type 0} (R : X → Y → Type 0) (xs : List X) (ys : List Y) (k : ℕ) (d : X) (y : Y) → k < length xs → AllZip R (take k xs) ys → R (get_or xs k d) y →
    AllZip R (take (k + 1) xs) (ys ++ y ∷ [])
zip_more R xs ys k d y within before here = subst (λ front. AllZip R front (ys ++ y ∷ [])) (sym (take_more xs k d within)) (zip_push R (take k xs) ys (get_or xs k d) y before here)

pub zip_length : {X Y : Type 0} (R : X → Y → Type 0) (xs : List X) (ys : List Y) → AllZip R xs ys → length xs ≡ length ys
zip_length R [] [] zipped = refl
zip_length R [] (y ∷ ys) zipped = absurd zipped
zip_length R (x ∷ xs) [] zipped = absurd zipped
zip_length R (x ∷ xs) (y ∷ ys) zipped = omega (arith, zip_length R xs ys zipped.1)

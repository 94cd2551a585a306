-- Places from which parts are taken and to which parts are brought.
use Rattle.std.proofs.Common.{◌≡◌, ◌==◌, ℕ, ◌+◌, ◌-◌, ◌^◌, ◌<◌, ◌≤◌, List, length, take, if◌then◌else◌, refl, sym, ap, ◌∙◌, arith}
use Rattle.std.specs.Prelude.{sum_by}
use Rattle.std.proofs.lemmas.List.Sums.{sum_by_more, sum_by_more_le}
use Rattle.std.proofs.Math.ListN.{get_or}
use Rattle.std.proofs.lemmas.Bool.Decides.{nat_tests}
use Rattle.cell_sweep.specs.CellStates.{with_entered, with_left}
use Rattle.cell_sweep.specs.declared.cell_state.CellState.{CellState}
use Rattle.region_body.specs.Carrying.{CanPass, passed}

pub left-none : (state : CellState) → state ≡ with_left state 0
left-none state =
    let n : state.n - 0 ≡ state.n = omega arith in
    let gone : state.gone + 0 ≡ state.gone = omega arith in
    sym (ap (λ m. record state { n = m; gone = state.gone + 0 }) n ∙ ap (λ m. record state { gone = m }) gone)

pub entered-none : (state : CellState) → state ≡ with_entered state 0
entered-none state = let n : state.n + 0 ≡ state.n = omega arith in sym (ap (λ m. record state { n = m }) n)

pub passed-none : (state : CellState) → state ≡ passed state 0 0
passed-none state = left-none state ∙ entered-none (with_left state 0)

-- what is moved once and again is moved together
pub passed-twice : (state : CellState) (enters leaves more went : ℕ) → leaves + went ≤ state.n →
    passed (passed state enters leaves) more went ≡ passed state (enters + more) (leaves + went)
passed-twice state enters leaves more went held =
    let n : state.n - leaves + enters - went + more ≡ state.n - (leaves + went) + (enters + more) = omega arith in
    let gone : state.gone + leaves + went ≡ state.gone + (leaves + went) = omega arith in
    rw (n, gone) refl

-- what one cell is moved by
pub at-one : (q parts : ℕ) → (if q == q then parts else 0) ≡ parts
at-one q parts = grind (arith, nat_tests)

-- of a state that passes all these one after the other

pub can-pass-more : {X : Type 0} (enters leaves : X → ℕ) (xs : List X) (j : ℕ) (d : X) (first now : CellState) → j < length xs →
    now ≡ passed first (sum_by enters (take j xs)) (sum_by leaves (take j xs)) → CanPass first (sum_by enters xs) (sum_by leaves xs) →
    CanPass now (enters (get_or xs j d)) (leaves (get_or xs j d))
can-pass-more enters leaves xs j d first now there is can =
    let came = sum_by_more_le enters xs j d there in
    let went = sum_by_more_le leaves xs j d there in
    let n = ap (λ state. state.n) is in
    let gone = ap (λ state. state.gone) is in
    let held = can.held in
    let most = can.gone in
    let fits = can.fits in
    record { held = omega arith; gone = omega arith; fits = omega arith }

pub passed-more : {X : Type 0} (enters leaves : X → ℕ) (xs : List X) (j : ℕ) (d : X) (first now after : CellState) → j < length xs →
    now ≡ passed first (sum_by enters (take j xs)) (sum_by leaves (take j xs)) → after ≡ passed now (enters (get_or xs j d)) (leaves (get_or xs j d)) →
    sum_by leaves xs ≤ first.n → after ≡ passed first (sum_by enters (take (j + 1) xs)) (sum_by leaves (take (j + 1) xs))
passed-more enters leaves xs j d first now after there is next held =
    let x = get_or xs j d in
    let went = sum_by_more_le leaves xs j d there in
    next ∙ ap (λ one. passed one (enters x) (leaves x)) is
    ∙ passed-twice first (sum_by enters (take j xs)) (sum_by leaves (take j xs)) (enters x) (leaves x) (omega (arith, went, held))
    ∙ ap (λ came. passed first came (sum_by leaves (take j xs) + leaves x)) (sym (sum_by_more enters xs j d there))
    ∙ ap (passed first (sum_by enters (take (j + 1) xs))) (sym (sum_by_more leaves xs j d there))

-- of a state that all these enter one after the other

pub entered-room : {X : Type 0} (enters : X → ℕ) (xs : List X) (j : ℕ) (d : X) (first now : CellState) → j < length xs →
    now ≡ with_entered first (sum_by enters (take j xs)) → first.n + sum_by enters xs < 2 ^ 64 → now.n + enters (get_or xs j d) < 2 ^ 64
entered-room enters xs j d first now there is fits =
    let came = sum_by_more_le enters xs j d there in
    let n = ap (λ state. state.n) is in
    omega (arith, came, n, fits)

pub entered-more : {X : Type 0} (enters : X → ℕ) (xs : List X) (j : ℕ) (d : X) (first now after : CellState) → j < length xs →
    now ≡ with_entered first (sum_by enters (take j xs)) → after ≡ with_entered now (enters (get_or xs j d)) →
    after ≡ with_entered first (sum_by enters (take (j + 1) xs))
entered-more enters xs j d first now after there is next =
    let x = get_or xs j d in
    let n : first.n + sum_by enters (take j xs) + enters x ≡ first.n + (sum_by enters (take j xs) + enters x) = omega arith in
    next ∙ ap (λ one. with_entered one (enters x)) is ∙ ap (λ m. record first { n = m }) n
    ∙ ap (with_entered first) (sym (sum_by_more enters xs j d there))

-- parts of what passes a cell, one after the other

pub can-take : (state : CellState) (x enters leaves : ℕ) → CanPass state enters leaves → x ≤ leaves → CanPass state 0 x
can-take state x enters leaves can few = record {
  held = omega (arith, few, can.held);
  gone = omega (arith, few, can.gone);
  fits = omega (arith, can.fits);
}

pub can-take-more : (state now : CellState) (x y enters leaves : ℕ) → now ≡ with_left state x → CanPass state enters leaves → x + y ≤ leaves → CanPass now 0 y
can-take-more state now x y enters leaves is can few =
    let n = ap (λ one. one.n) is in
    let gone = ap (λ one. one.gone) is in
    record {
      held = omega (arith, n, few, can.held);
      gone = omega (arith, gone, few, can.gone);
      fits = omega (arith, n, can.fits);
    }

pub can-bring : (state now : CellState) (y enters leaves : ℕ) → now.n + y ≤ state.n + enters → now.gone ≤ state.gone + leaves → CanPass state enters leaves → CanPass now y 0
can-bring state now y enters leaves few few_gone can = record {
  held = omega arith;
  gone = omega (arith, few_gone, can.gone);
  fits = omega (arith, few, can.fits);
}

pub left-twice : (state : CellState) (x y : ℕ) → with_left (with_left state x) y ≡ with_left state (x + y)
left-twice state x y =
    let n : state.n - x - y ≡ state.n - (x + y) = omega arith in
    let gone : state.gone + x + y ≡ state.gone + (x + y) = omega arith in
    rw (n, gone) refl

pub entered-twice : (state : CellState) (x y : ℕ) → with_entered (with_entered state x) y ≡ with_entered state (x + y)
entered-twice state x y = let n : state.n + x + y ≡ state.n + (x + y) = omega arith in ap (λ m. record state { n = m }) n

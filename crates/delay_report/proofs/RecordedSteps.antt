-- The recorded steps, one step after the other, and how many there are.
use Rattle.std.specs.Prelude.{Bool, min, not, ◌==◌, ◌&&◌, ◌||◌, slice_index}
use Rattle.std.specs.List.{filter, range_with_len}
use Rattle.std.proofs.Common.{◌≡◌, ℕ, zero, suc, add-zero, ◌<◌, ◌≤◌, ◌+◌, ◌-◌, ◌*◌, ◌/◌, ◌%◌, inl, inr, true, false, List, [], ◌∷◌, ◌++◌, length, refl, sym, ap, ◌∙◌, append_assoc, arith}
use Rattle.std.proofs.Math.Nat.{div-add-mod, lt-div-mul-add, mul-le-mul_right, mul_comm, zero-div}
use Rattle.std.proofs.Math.Seq.{get_or-append_seam}
use Rattle.std.proofs.lemmas.Bool.{cases_Bool, cases_lt, eq-eqb, eqb-true, ne_eqb}
use Rattle.std.proofs.lemmas.Grind.{div_ceil_times}
use Rattle.std.proofs.lemmas.List.{append-nil, get_or_append_left, length-append}
use Rattle.std.proofs.lemmas.List.Elements.{filter-append}
use Rattle.std.proofs.lemmas.List.Filters.{length-filter_both}
use Rattle.std.proofs.lemmas.List.FromFn.{length-range_with_len}
use Rattle.region_step.specs.Recording.{is_recorded, recorded}
use Rattle.delay_report.specs.Report.{recorded_count}
use Rattle.line_fields.proofs.Lines.{range_more}

-- those before step t
abbrev pub before : (steps every t : ℕ) → List ℕ
before steps every t = filter (is_recorded steps every) (range_with_len 0 t)

pub before-yes : (steps every t : ℕ) → is_recorded steps every t ≡ true → before steps every (t + 1) ≡ before steps every t ++ t ∷ []
before-yes steps every t yes_t =
    ap (filter (is_recorded steps every)) (range_more t) ∙ filter-append (is_recorded steps every) (range_with_len 0 t) (t ∷ []) ∙ rw yes_t refl

pub before-no : (steps every t : ℕ) → is_recorded steps every t ≡ false → before steps every (t + 1) ≡ before steps every t
before-no steps every t no_t =
    ap (filter (is_recorded steps every)) (range_more t) ∙ filter-append (is_recorded steps every) (range_with_len 0 t) (t ∷ []) ∙ rw no_t (append-nil (before steps every t))

pub before-all : (steps every t : ℕ) → t ≡ steps + 1 → before steps every t ≡ recorded steps every 0 steps
before-all steps every t end =
    let whole : t ≡ steps + 1 - 0 = omega (arith, end) in
    ap (before steps every) whole

-- they begin all recorded steps
begins : (steps every t d : ℕ) → (rest : List ℕ) × (before steps every (t + d) ≡ before steps every t ++ rest)
begins steps every t zero = ([], ap (before steps every) (add-zero t) ∙ sym (append-nil (before steps every t)))
begins steps every t (suc d) =
    let last : t + suc d ≡ t + d + 1 = omega arith in
    let before_last = begins steps every t d in
    elim (cases_Bool (is_recorded steps every (t + d))) [
      | inl yes_last ↦ (
        before_last.0 ++ (t + d) ∷ [],
        ap (before steps every) last ∙ before-yes steps every (t + d) yes_last ∙ ap (λ front. front ++ (t + d) ∷ []) before_last.1 ∙
            append_assoc (before steps every t) before_last.0 ((t + d) ∷ []),
      )
      | inr no_last ↦ (before_last.0, ap (before steps every) last ∙ before-no steps every (t + d) no_last ∙ before_last.1)
    ]

-- a recorded step stands among them after those before it
pub stands-among : (steps every t : ℕ) → t ≤ steps → is_recorded steps every t ≡ true →
    (length (before steps every t) < recorded_count steps every) × (slice_index (recorded steps every 0 steps) (length (before steps every t)) ≡ t)
stands-among steps every t in_time yes_t =
    let rest = begins steps every (t + 1) (steps - t) in
    let end : t + 1 + (steps - t) ≡ steps + 1 = omega (arith, in_time) in
    let front : List ℕ = before steps every t in
    let whole : recorded steps every 0 steps ≡ (front ++ t ∷ []) ++ rest.0 =
    sym (before-all steps every (t + 1 + (steps - t)) end) ∙ rest.1 ∙ ap (λ begun. begun ++ rest.0) (before-yes steps every t yes_t) in (
      omega (arith, ap length whole, length-append (front ++ t ∷ []) rest.0, length-append front (t ∷ [])),
      ap (λ list. slice_index list (length front)) whole ∙
          get_or_append_left (front ++ t ∷ []) rest.0 0 (length front) (omega (arith, length-append front (t ∷ []))) ∙ get_or-append_seam front t [] 0,
    )

-- one step on, the ceiling of a quotient is one more than the floor was
ceil-next : (t every : ℕ) → 0 < every → (t + 1) / every + min 1 ((t + 1) % every) ≡ t / every + 1
ceil-next t every some =
    let c : ℕ = (t + 1) / every + min 1 ((t + 1) % every) in
    let q : ℕ = t / every in
    let bounds = div_ceil_times (t + 1) every some in
    let floor : q * every ≤ t = omega (arith, div-add-mod t every, mul_comm every (t / every)) in
    let above : t < q * every + every = lt-div-mul-add some in
    elim (cases_lt q c) [
      | inl lower ↦ elim (cases_lt (q + 1) c) [
        | inl past ↦
            let wide : (q + 2) * every ≤ c * every = mul-le-mul_right every (omega (arith, past)) in
            absurd (omega (arith, wide, bounds.1, above))
        | inr at ↦ omega (arith, lower, at)
      ]
      | inr not_lower ↦
          let narrow : c * every ≤ q * every = mul-le-mul_right every (omega (arith, not_lower)) in
          absurd (omega (arith, narrow, bounds.0, floor))
    ]

-- the multiples before a step that isn't past the last
counted : (steps every t : ℕ) → 0 < every → t ≤ steps → length (before steps every t) ≡ t / every + min 1 (t % every)
counted steps every zero some in_time = omega (arith, zero-div every, div-add-mod 0 every)
counted steps every (suc t) some in_time =
    let before_it = counted steps every t some (omega (arith, in_time)) in
    let next = ceil-next t every some in
    let last : suc t ≡ t + 1 = omega arith in
    let asked : not (every == 0) ≡ true = ap not (ne_eqb every 0 (λ none. absurd (omega (arith, some, none)))) in
    let early : (t == steps) ≡ false = ne_eqb t steps (λ same. absurd (omega (arith, in_time, same))) in
    elim (cases_Bool (t % every == 0)) [
      | inl divides ↦
          let is : is_recorded steps every t ≡ true = rw (asked, divides) refl in
          let none : t % every ≡ 0 = eqb-true (t % every) 0 divides in
          ap (λ s. length (before steps every s)) last ∙
          omega (arith, ap length (before-yes steps every t is), length-append (before steps every t) (t ∷ []), before_it, next, none, ap (λ s. s / every + min 1 (s % every)) last)
      | inr other ↦
          let is : is_recorded steps every t ≡ false = rw (asked, other, early) refl in
          ap (λ s. length (before steps every s)) last ∙
          omega (arith, ap length (before-no steps every t is), before_it, next, one (t % every) other, ap (λ s. s / every + min 1 (s % every)) last)
    ]
  where
    one : (r : ℕ) → (r == 0) ≡ false → min 1 r ≡ 1
    one zero none = cc
    one (suc r) none = omega arith

pub recorded_count-is : (steps every : ℕ) → 0 < every → recorded_count steps every ≡ steps / every + min 1 (steps % every) + 1
recorded_count-is steps every some =
    let asked : not (every == 0) ≡ true = ap not (ne_eqb every 0 (λ none. absurd (omega (arith, some, none)))) in
    let is : is_recorded steps every steps ≡ true = rw (asked, eq-eqb steps steps refl) (either (steps % every == 0)) in
    ap length (sym (before-all steps every (steps + 1) refl)) ∙
    omega (arith, ap length (before-yes steps every steps is), length-append (before steps every steps) (steps ∷ []), counted steps every steps some (omega arith))
  where
    either : (a : Bool) → (true && (a || true)) ≡ true
    either true = refl
    either false = refl

-- none where nothing is recorded
pub recorded-none : (steps from t : ℕ) → recorded steps 0 from t ≡ []
recorded-none steps from t = none (range_with_len from (t + 1 - from))
  where
    none : (xs : List ℕ) → filter (is_recorded steps 0) xs ≡ []
    none [] = refl
    none (x ∷ xs) = none xs

pub recorded_count-never : (steps every : ℕ) → every ≡ 0 → recorded_count steps every ≡ 0
recorded_count-never steps every never = ap (λ e. length (recorded steps e 0 steps)) never ∙ ap length (recorded-none steps 0 steps)

-- at most all
pub recorded_count-most : (steps every : ℕ) → recorded_count steps every ≤ steps + 1
recorded_count-most steps every =
    let all : List ℕ = range_with_len 0 (steps + 1 - 0) in
    omega (arith, length-filter_both (is_recorded steps every) (λ t. not (is_recorded steps every t)) (λ t. refl) all, length-range_with_len 0 (steps + 1 - 0))

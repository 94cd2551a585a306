-- How many steps are recorded: one in every `every`, and the last.
use Rattle.std.specs.Prelude.{Bool, not, ◌==◌, ◌&&◌, ◌||◌, if◌then◌else◌}
use Rattle.std.specs.List.{filter, range_with_len}
use Rattle.std.proofs.Common.{◌≡◌, ℕ, zero, suc, ◌<◌, ◌≤◌, ◌+◌, ◌-◌, ◌*◌, ◌/◌, ◌%◌, inl, inr, true, false, List, [], ◌∷◌, length, refl, ap, ◌∙◌, arith}
use Rattle.std.proofs.lemmas.Bool.{cases_Bool, cases_lt, eqb-true}
use Rattle.std.proofs.lemmas.Nat.{le-div}
use Rattle.std.proofs.Math.Nat.{div-add-mod, div-mul-le_self, le-div_iff_mul-le, mul-le-mul_left, mul_comm}
use Rattle.region_step.specs.Recording.{is_recorded}
use Rattle.region_step.specs.Noting.{recorded_after}

div-grows : (a every : ℕ) → 0 < every → a / every ≤ (a + 1) / every
div-grows a every some = le-div (a / every) (a + 1) every some (omega (arith, div-mul-le_self a every))

div-grows-at : (a every : ℕ) → 0 < every → (a + 1) % every ≡ 0 → a / every + 1 ≤ (a + 1) / every
div-grows-at a every some divides = elim (cases_lt (a / every) ((a + 1) / every)) [
  | inl lower ↦ omega (arith, lower)
  | inr other ↦
      let back : (a + 1) / every * every ≤ a = (le-div_iff_mul-le some).0 (omega (arith, other)) in
      absurd (omega (arith, back, div-add-mod (a + 1) every, divides, mul_comm every ((a + 1) / every)))
]

recorded-last : (steps every t : ℕ) → is_recorded steps every t ≡ true → ((t % every == 0) ≡ false) → t ≡ steps
recorded-last steps every t recorded none = eqb-true t steps (last (t % every == 0) (t == steps) (not (every == 0)) none recorded)
  where
    last : (a b c : Bool) → a ≡ false → (c && (a || b)) ≡ true → b ≡ true
    last true b c other all = cc
    last false b true other all = all
    last false b false other all = cc

last-alone : (p : ℕ → Bool) (a n : ℕ) → n ≡ 0 → length (filter p (range_with_len a n)) ≡ 0
last-alone p a zero none = refl
last-alone p a (suc n) none = absurd (omega arith)

recorded-count : (steps every a n : ℕ) → 0 < every → a + n ≤ steps →
    length (filter (is_recorded steps every) (range_with_len (a + 1) n)) + a / every ≤ (a + n) / every + 1
recorded-count steps every a zero some within = omega (arith, ap (λ b. b / every) same)
  where
    same : a + 0 ≡ a
    same = omega arith
recorded-count steps every a (suc n) some within =
    let rest = recorded-count steps every (a + 1) n some (omega (arith, within)) in
    let end : (a + 1 + n) / every ≡ (a + suc n) / every = ap (λ b. b / every) same in
    elim (cases_Bool (is_recorded steps every (a + 1))) [
      | inl recorded ↦ elim (cases_Bool ((a + 1) % every == 0)) [
        | inl divides ↦ rw recorded (omega (arith, rest, end, div-grows-at a every some (eqb-true ((a + 1) % every) 0 divides)))
        | inr other ↦
            let last : a + 1 ≡ steps = recorded-last steps every (a + 1) recorded other in
            let none : n ≡ 0 = omega (arith, last, within) in
            rw recorded (omega (arith, end, last-alone (is_recorded steps every) (a + 1 + 1) n none, div-grows a every some, same_end none))
      ]
      | inr other ↦ rw other (omega (arith, rest, end, div-grows a every some))
    ]
  where
    same : a + 1 + n ≡ a + suc n
    same = omega arith

    same_end : n ≡ 0 → (a + suc n) / every ≡ (a + 1) / every
    same_end none = ap (λ b. b / every) (omega (arith, none))

pub recorded-never : (steps : ℕ) (xs : List ℕ) → length (filter (is_recorded steps 0) xs) ≡ 0
recorded-never steps [] = refl
recorded-never steps (x ∷ xs) = recorded-never steps xs

-- room for so many blocks of notes is enough
pub room-enough : (cells steps every from : ℕ) → 0 < every → from ≤ steps →
    cells * ((if is_recorded steps every from then 1 else 0) + recorded_after steps every from) ≤ cells * (steps / every - from / every + 2)
room-enough cells steps every from some within =
    let end : (from + (steps - from)) / every ≡ steps / every = ap (λ b. b / every) (omega (arith, within)) in
    let count = recorded-count steps every from (steps - from) some (omega (arith, within)) in
    let own : (if is_recorded steps every from then 1 else 0) ≤ 1 = at_most (is_recorded steps every from) in
    mul-le-mul_left cells (omega (arith, own, count, end))
  where
    at_most : (b : Bool) → (if b then 1 else 0) ≤ 1
    at_most true = omega arith
    at_most false = omega arith

-- a step on
pub recorded_after-next : (steps every t : ℕ) → t < steps → recorded_after steps every t ≡ (if is_recorded steps every (t + 1) then 1 else 0) + recorded_after steps every (t + 1)
recorded_after-next steps every t before =
    let count : steps - t ≡ suc (steps - (t + 1)) = omega (arith, before) in
    ap (λ n. length (filter (is_recorded steps every) (range_with_len (t + 1) n))) count ∙ one (is_recorded steps every (t + 1))
  where
    one : (b : Bool) → length (if b then (t + 1) ∷ filter (is_recorded steps every) (range_with_len (t + 1 + 1) (steps - (t + 1))) else filter (is_recorded steps every) (range_with_len (t + 1 + 1) (steps - (t + 1)))) ≡
        (if b then 1 else 0) + recorded_after steps every (t + 1)
    one true = omega arith
    one false = omega arith

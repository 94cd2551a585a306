-- One pass over a text gives the amount that the text spells.
use Rattle.std.proofs.Common.{◌≡◌, ℕ, suc, ◌+◌, ◌-◌, ◌*◌, ◌^◌, ◌<◌, ◌≤◌, Bool, true, false, cond, not, ◌&&◌, ◌||◌, List, [], ◌∷◌, length, length-take, length-drop, Option, Some, None, refl, sym, ap, ◌∙◌, inl, inr, arith, one-add, zero-add, add-zero, add-one, if◌then◌else◌, nat_lt, nat_le}
use Rattle.std.specs.Option.{is_none}
use Rattle.std.proofs.lemmas.Bool.{cases_Bool, and_parts, or_parts, or_cases, not-true, leb-true, false_from_ne_true}
use Rattle.std.proofs.lemmas.Nat.{pow-add}
use Rattle.std.proofs.lemmas.Bool.Decides.{nat_tests}
use Rattle.std.specs.Char.{is_ascii_digit, digit_value}
use Rattle.std.specs.List.{list_all, list_any, before_first, after_first, position_or_len}
use Rattle.std.specs.Str.Parse.{digits_value, digits_value_after}
use Rattle.fixed_flow.specs.Spelling.{amount_of, is_point, is_digits}
use Rattle.fixed_flow.specs.Pass.{parts_at_end}
use Rattle.fixed_flow.proofs.DigitFacts.{digits_value_after-is, pow_at_most}

-- the parts of a text of this length, whose digits have this value
abbrev pub parts_of : ℕ → ℕ → Option ℕ → Option ℕ
parts_of value at None = parts_at_end value at None
parts_of value at (Some point) = parts_at_end value point (Some (at - point - 1))

-- the parts of a text, from its first `at` bytes and the bytes that are left
abbrev pub parts_from : ℕ → ℕ → Option ℕ → List ℕ → Option ℕ
parts_from value at point [] = parts_of value at point
parts_from value at point (byte ∷ bytes) =
    cond (is_ascii_digit byte) (parts_from (value * 10 + digit_value byte) (at + 1) point bytes)
    (cond (is_none point && is_point byte) (parts_from value (at + 1) (Some at) bytes) None)

-- behind the point
behind : (value at point : ℕ) (ds : List ℕ)
    → parts_from value at (Some point) ds ≡ cond (list_all is_ascii_digit ds) (parts_at_end (digits_value_after 10 value ds) point (Some (at + length ds - point - 1))) None
behind value at point [] = rw add-zero refl
behind value at point (c ∷ cs) =
    elim (cases_Bool (is_ascii_digit c)) [
      | inl digit ↦
          let n : at + 1 + length cs ≡ at + suc (length cs) = omega arith in
          rw digit (rw (behind (value * 10 + digit_value c) (at + 1) point cs, n) refl)
      | inr other ↦ rw other refl
    ]

pub before_first-more : (c : ℕ) (cs : List ℕ) → is_point c ≡ false → before_first is_point (c ∷ cs) ≡ c ∷ before_first is_point cs
before_first-more c cs other = rw (other, one-add) refl

pub after_first-more : (c : ℕ) (cs : List ℕ) → is_point c ≡ false → after_first is_point (c ∷ cs) ≡ after_first is_point cs
after_first-more c cs other = rw (other, one-add) (simp add-one)

-- the parts of a text whose first `at` bytes have this value, from its bytes up to the point, whether there is one, and
-- the bytes behind it
assembled : ℕ → ℕ → List ℕ → Bool → List ℕ → Option ℕ
assembled value at whole point decimals =
    cond (list_all is_ascii_digit whole) (
    cond point
    (cond (list_all is_ascii_digit decimals) (parts_at_end (digits_value_after 10 (digits_value_after 10 value whole) decimals) (at + length whole) (Some (length decimals))) None)
    (parts_at_end (digits_value_after 10 value whole) (at + length whole) None)
    ) None

assembled-end : (value at : ℕ) → assembled value at [] false [] ≡ parts_at_end value at None
unfolding assembled
assembled-end value at = rw add-zero refl

assembled-point : (value at : ℕ) (ds : List ℕ) → assembled value at [] true ds ≡ parts_from value (at + 1) (Some at) ds
unfolding assembled
assembled-point value at ds =
    let n : at + 1 + length ds - at - 1 ≡ length ds = omega arith in
    rw (behind value (at + 1) at ds, n, add-zero) refl

assembled-digit : (value at c : ℕ) (whole : List ℕ) (point : Bool) (ds : List ℕ) → is_ascii_digit c ≡ true
    → assembled value at (c ∷ whole) point ds ≡ assembled (value * 10 + digit_value c) (at + 1) whole point ds
unfolding assembled
assembled-digit value at c whole point ds digit =
    let n : at + suc (length whole) ≡ at + 1 + length whole = omega arith in
    rw (digit, n) refl

assembled-other : (value at c : ℕ) (whole : List ℕ) (point : Bool) (ds : List ℕ) → is_ascii_digit c ≡ false → assembled value at (c ∷ whole) point ds ≡ None
unfolding assembled
assembled-other value at c whole point ds other = rw other refl

pub point_is_no_digit : (c : ℕ) → is_point c ≡ true → is_ascii_digit c ≡ false
point_is_no_digit c e = grind (arith, nat_tests)

before : (value at : ℕ) (bytes : List ℕ)
    → parts_from value at None bytes ≡ assembled value at (before_first is_point bytes) (list_any is_point bytes) (after_first is_point bytes)
before value at [] = sym (assembled-end value at)
before value at (c ∷ cs) =
    elim (cases_Bool (is_point c)) [
      | inl point ↦ rw (point_is_no_digit c point, point) (sym (assembled-point value at cs))
      | inr other ↦ elim (cases_Bool (is_ascii_digit c)) [
        | inl digit ↦
            rw (before_first-more c cs other, after_first-more c cs other, other, digit)
            (before (value * 10 + digit_value c) (at + 1) cs ∙ sym (assembled-digit value at c _ _ _ digit))
        | inr neither ↦ rw (before_first-more c cs other, neither, other) (sym (assembled-other value at c _ _ _ neither))
      ]
    ]

-- ---- the definition, from the same pieces

at_most : (most : ℕ) (ds : List ℕ) → (nat_lt 0 (length ds) && nat_le (length ds) most) ≡ true → length ds ≤ most
at_most most ds counted = leb-true (length ds) most (and_parts (nat_lt 0 (length ds)) (nat_le (length ds) most) counted).1

is_digits-at_most : (most : ℕ) (ds : List ℕ) → is_digits most ds ≡ true → length ds ≤ most
is_digits-at_most most ds all = at_most most ds (and_parts _ (list_all is_ascii_digit ds) all).0

-- the value of digits on both sides of the point, in parts
value_of_both : (whole decimals : List ℕ) → length decimals ≤ 6
    → digits_value 10 whole * 1_000_000 + digits_value 10 decimals * 10 ^ (6 - length decimals) ≡ digits_value_after 10 (digits_value 10 whole) decimals * 10 ^ (6 - length decimals)
value_of_both whole decimals short =
    let n : length decimals + (6 - length decimals) ≡ 6 = omega arith in
    let million : 10 ^ length decimals * 10 ^ (6 - length decimals) ≡ 10 ^ 6 = sym (pow-add 10 (length decimals) (6 - length decimals)) ∙ ap (λ k. 10 ^ k) n in
    let scaled = ap (λ m. digits_value 10 whole * m) million in
    rw (digits_value_after-is (digits_value 10 whole) decimals) (omega (arith, scaled))

-- the tests of the definition in any order: w and d, that bytes are digits, c and k, that there are enough and not too many,
-- and p, that there is a point
chosen : (w p d c k : Bool) (x y z : ℕ) → (p ≡ false → x ≡ z) → (k ≡ true → x ≡ y)
    → cond ((c && w) && (not p || (k && d))) (Some x) None ≡ cond w (cond p (cond d (cond (c && k) (Some y) None) None) (cond c (Some z) None)) None
chosen false p d false k x y z without both = refl
chosen false p d true k x y z without both = refl
chosen true false d false k x y z without both = refl
chosen true false d true k x y z without both = ap Some (without refl)
chosen true true false false k x y z without both = refl
chosen true true true false k x y z without both = refl
chosen true true false true false x y z without both = refl
chosen true true false true true x y z without both = refl
chosen true true true true false x y z without both = refl
chosen true true true true true x y z without both = ap Some (both refl)

same_pieces : (whole : List ℕ) (point : Bool) (decimals : List ℕ) → (point ≡ false → decimals ≡ [])
    → (if is_digits 12 whole && (not point || is_digits 6 decimals) then Some (digits_value 10 whole * 1_000_000 + digits_value 10 decimals * 10 ^ (6 - length decimals)) else None)
    ≡ assembled 0 0 whole point decimals
unfolding assembled
same_pieces whole point decimals absent =
    let whole_value = digits_value 10 whole in
    let both_value = digits_value_after 10 whole_value decimals in
    let without : point ≡ false → whole_value * 1_000_000 + digits_value 10 decimals * 10 ^ (6 - length decimals) ≡ whole_value * 1_000_000 = λ none. rw (absent none) (omega arith) in
    let both : (nat_lt 0 (length decimals) && nat_le (length decimals) 6) ≡ true → whole_value * 1_000_000 + digits_value 10 decimals * 10 ^ (6 - length decimals) ≡ both_value * 10 ^ (6 - length decimals)
    = λ some. value_of_both whole decimals (at_most 6 decimals some) in
    rw (zero-add (length whole))
    (chosen (list_all is_ascii_digit whole) point (list_all is_ascii_digit decimals) (nat_lt 0 (length whole) && nat_le (length whole) 12) (nat_lt 0 (length decimals) && nat_le (length decimals) 6) _ _ _ without both)

after_first-none : (bytes : List ℕ) → list_any is_point bytes ≡ false → after_first is_point bytes ≡ []
after_first-none [] none = refl
after_first-none (c ∷ cs) none =
    let parts = or_parts (is_point c) (list_any is_point cs) none in
    after_first-more c cs parts.0 ∙ after_first-none cs parts.1

pub amount_of-is : (text : List ℕ) → amount_of text ≡ parts_from 0 0 None text
unfolding amount_of
amount_of-is text = same_pieces _ _ _ (after_first-none text) ∙ sym (before 0 0 text)

no_amount_over_nineteen : (text : List ℕ) → 19 < length text
    → (is_digits 12 (before_first is_point text) && (not (list_any is_point text) || is_digits 6 (after_first is_point text))) ≡ true → ⊥
no_amount_over_nineteen text long spelled =
    let parts = and_parts (is_digits 12 (before_first is_point text)) _ spelled in
    let whole = is_digits-at_most 12 (before_first is_point text) parts.0 in
    let until = length-take (position_or_len is_point text) text in
    let from = length-drop (position_or_len is_point text + 1) text in
    elim (or_cases (not (list_any is_point text)) (is_digits 6 (after_first is_point text)) parts.1) [
      | inl without ↦ let empty = ap length (after_first-none text (not-true _ without)) in omega (arith, whole, until, from, empty)
      | inr both ↦ let decimals = is_digits-at_most 6 (after_first is_point text) both in omega (arith, whole, until, from, decimals)
    ]

pub amount_of-too_long : (text : List ℕ) → 19 < length text → amount_of text ≡ None
unfolding amount_of
amount_of-too_long text long = rw (false_from_ne_true _ (no_amount_over_nineteen text long)) refl

-- a value of so many digits: all the bytes so far but the point
abbrev pub IsBelowDigits : ℕ → ℕ → Option ℕ → Type 0
IsBelowDigits value at None = value < 10 ^ at
IsBelowDigits value at (Some point) = (value < 10 ^ (at - 1)) × (point < at)

pub below_nineteen : (value at : ℕ) (point : Option ℕ) → IsBelowDigits value at point → at < 19 → value < 10 ^ 18
below_nineteen value at None below short = omega (arith, pow_at_most at 18 (omega arith))
below_nineteen value at (Some point) below short = omega (arith, below.0, pow_at_most (at - 1) 18 (omega arith))

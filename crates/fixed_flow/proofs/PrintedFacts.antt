-- A printed amount spells the amount that was printed.
use Rattle.std.proofs.Common.{◌≡◌, ℕ, ◌+◌, ◌-◌, ◌*◌, ◌/◌, ◌%◌, ◌^◌, ◌<◌, ◌≤◌, true, false, ◌&&◌, ◌||◌, List, [], ◌∷◌, ◌++◌, length, map, Some, ℤ, pos, negsuc, int_lt, true≢false, unsigned_abs, nat_lt, nat_le, refl, ap, ◌∙◌, arith}
use Rattle.std.proofs.lemmas.Bool.{and_from, and_parts}
use Rattle.std.proofs.lemmas.Bool.Decides.{nat_tests}
use Rattle.std.proofs.lemmas.Fmt.{decimal_is_IsNumeral, length-decimal-le}
use Rattle.std.proofs.lemmas.Str.Parse.{digit_from_value}
use Rattle.std.specs.Char.{is_ascii_digit, digit_value}
use Rattle.std.specs.Fmt.{decimal}
use Rattle.std.specs.Int.{IsInRange}
use Rattle.std.specs.List.{list_all, list_any, before_first, after_first}
use Rattle.std.specs.Str.Parse.{AllDigits, digits_value}
use Rattle.fixed_flow.specs.Printed.{amount_text}
use Rattle.fixed_flow.specs.Signed.{signed_amount_text}
use Rattle.fixed_flow.specs.Spelling.{amount_of, is_point, is_digits}
use Rattle.fixed_flow.proofs.DigitFacts.{digit_value-at_digit}
use Rattle.fixed_flow.proofs.PassFacts.{before_first-more, after_first-more}

no_point : (c : ℕ) → is_ascii_digit c ≡ true → is_point c ≡ false
no_point c digit = grind (arith, nat_tests)

before_first-append : (ds rest : List ℕ) → list_all is_ascii_digit ds ≡ true → before_first is_point (ds ++ 46 ∷ rest) ≡ ds
before_first-append [] rest all = refl
before_first-append (c ∷ cs) rest all =
    let parts = and_parts (is_ascii_digit c) (list_all is_ascii_digit cs) all in
    before_first-more c (cs ++ 46 ∷ rest) (no_point c parts.0) ∙ ap (λ (xs : List ℕ). c ∷ xs) (before_first-append cs rest parts.1)

after_first-append : (ds rest : List ℕ) → list_all is_ascii_digit ds ≡ true → after_first is_point (ds ++ 46 ∷ rest) ≡ rest
after_first-append [] rest all = refl
after_first-append (c ∷ cs) rest all =
    let parts = and_parts (is_ascii_digit c) (list_all is_ascii_digit cs) all in
    after_first-more c (cs ++ 46 ∷ rest) (no_point c parts.0) ∙ after_first-append cs rest parts.1

any_point-append : (ds rest : List ℕ) → list_any is_point (ds ++ 46 ∷ rest) ≡ true
any_point-append [] rest = refl
any_point-append (c ∷ cs) rest = rw (any_point-append cs rest) (elim (is_point c) as (λ b. (b || true) ≡ true) [ true ↦ refl | false ↦ refl ])

-- digits, a point and digits
amount_of-append : (whole decimals : List ℕ) → is_digits 12 whole ≡ true → is_digits 6 decimals ≡ true
    → amount_of (whole ++ 46 ∷ decimals) ≡ Some (digits_value 10 whole * 1_000_000 + digits_value 10 decimals * 10 ^ (6 - length decimals))
unfolding amount_of
amount_of-append whole decimals before behind =
    let all = (and_parts _ (list_all is_ascii_digit whole) before).1 in
    rw (before_first-append whole decimals all, after_first-append whole decimals all, any_point-append whole decimals, before, behind) refl

is_digits-from : (most : ℕ) (ds : List ℕ) → 0 < length ds → length ds ≤ most → list_all is_ascii_digit ds ≡ true → is_digits most ds ≡ true
is_digits-from most ds some short all =
    let counted : (nat_lt 0 (length ds) && nat_le (length ds) most) ≡ true = grind (arith, nat_tests) in
    rw (counted, all) refl

ranged : (c : ℕ) → IsInRange 48 57 c → is_ascii_digit c ≡ true
ranged c range = grind (arith, nat_tests)

list_all-from_digits : (ds : List ℕ) → AllDigits 10 ds → list_all is_ascii_digit ds ≡ true
list_all-from_digits [] all = refl
list_all-from_digits (c ∷ cs) all = and_from (is_ascii_digit c) (list_all is_ascii_digit cs) (ranged c (digit_from_value c all.0)) (list_all-from_digits cs all.1)

is_digits-decimal : (n : ℕ) → n < 10 ^ 12 → is_digits 12 (decimal n) ≡ true
is_digits-decimal n below =
    let numeral = (decimal_is_IsNumeral n (omega arith)).0 in
    is_digits-from 12 (decimal n) numeral.0 (length-decimal-le 12 n (omega arith) below (omega arith)) (list_all-from_digits (decimal n) numeral.1)

-- ---- the six decimals

abbrev six_digits : ℕ → List ℕ
six_digits n = map (λ place. 48 + n / place % 10) (100_000 ∷ 10_000 ∷ 1_000 ∷ 100 ∷ 10 ∷ 1 ∷ [])

-- the places behind the point show the rest alone
pub rest_digits : (n : ℕ) → six_digits (n % 1_000_000) ≡ six_digits n
rest_digits n =
    let a : n % 1_000_000 / 100_000 % 10 ≡ n / 100_000 % 10 = omega arith in
    let b : n % 1_000_000 / 10_000 % 10 ≡ n / 10_000 % 10 = omega arith in
    let c : n % 1_000_000 / 1_000 % 10 ≡ n / 1_000 % 10 = omega arith in
    let d : n % 1_000_000 / 100 % 10 ≡ n / 100 % 10 = omega arith in
    let e : n % 1_000_000 / 10 % 10 ≡ n / 10 % 10 = omega arith in
    let f : n % 1_000_000 / 1 % 10 ≡ n / 1 % 10 = omega arith in
    rw (a, b, c, d, e, f) refl

is_ascii_digit-glyph : (d : ℕ) → d < 10 → is_ascii_digit (48 + d) ≡ true
is_ascii_digit-glyph d below = grind (arith, nat_tests)

digit_value-glyph : (d : ℕ) → d < 10 → digit_value (48 + d) ≡ d
digit_value-glyph d below = omega (arith, digit_value-at_digit (48 + d) (is_ascii_digit-glyph d below))

is_digits-six : (n : ℕ) → is_digits 6 (six_digits n) ≡ true
is_digits-six n =
    let glyph = λ (m : ℕ). is_ascii_digit-glyph (m % 10) (omega arith) in
    rw (glyph (n / 100000), glyph (n / 10000), glyph (n / 1000), glyph (n / 100), glyph (n / 10), glyph (n / 1)) refl

digits_value-six : (n : ℕ) → digits_value 10 (six_digits n) ≡ n % 1_000_000
digits_value-six n =
    let glyph = λ (m : ℕ). digit_value-glyph (m % 10) (omega arith) in
    rw (glyph (n / 100000), glyph (n / 10000), glyph (n / 1000), glyph (n / 100), glyph (n / 10), glyph (n / 1)) (omega arith)

pub amount_of-amount_text : (parts : ℕ) → parts < 10 ^ 18 → amount_of (amount_text parts) ≡ Some parts
unfolding amount_text
amount_of-amount_text parts below =
    let vehicles = parts / 1_000_000 in
    let few : vehicles < 10 ^ 12 = omega arith in
    let whole : digits_value 10 (decimal vehicles) ≡ vehicles = (decimal_is_IsNumeral vehicles (omega arith)).1 in
    amount_of-append (decimal vehicles) (six_digits parts) (is_digits-decimal vehicles few) (is_digits-six parts)
    ∙ ap Some (omega (arith, whole, digits_value-six parts))

pub signed_amount_text-negative : (z : ℤ) → int_lt z (pos 0) ≡ true → signed_amount_text z ≡ 45 ∷ amount_text (unsigned_abs z)
unfolding signed_amount_text
signed_amount_text-negative (pos n) negative = absurd (grind (arith, nat_tests))
signed_amount_text-negative (negsuc n) negative = refl

pub signed_amount_text-positive : (z : ℤ) → int_lt z (pos 0) ≡ false → signed_amount_text z ≡ amount_text (unsigned_abs z)
unfolding signed_amount_text
signed_amount_text-positive (pos n) positive = refl
signed_amount_text-positive (negsuc n) positive = absurd (true≢false positive)

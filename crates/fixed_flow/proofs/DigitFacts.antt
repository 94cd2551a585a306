-- The value of digits: its bound, and how it grows.
use Rattle.std.proofs.Common.{◌≡◌, ℕ, ◌+◌, ◌*◌, ◌^◌, ◌<◌, ◌≤◌, true, List, [], ◌∷◌, ◌-◌, length, arith, lit<, add-one, sym}
use Rattle.std.proofs.Math.Nat.{pow-suc, pow-le-pow_right, mul-le-mul_right, le_of_lt}
use Rattle.std.proofs.lemmas.Bool.{and_parts}
use Rattle.std.proofs.lemmas.Nat.{pow-add}
use Rattle.std.proofs.lemmas.Bool.Decides.{nat_tests}
use Rattle.std.proofs.lemmas.Int.Digits.{digits_value-lt}
use Rattle.std.specs.Char.{is_ascii_digit, digit_value}
use Rattle.std.specs.List.{list_all}
use Rattle.std.specs.Str.Parse.{AllDigits, digits_value, digits_value_after}

pub digit_value-at_digit : (c : ℕ) → is_ascii_digit c ≡ true → digit_value c + 48 ≡ c
digit_value-at_digit c e = grind (arith, nat_tests)

pub digit_value_below : (c : ℕ) → is_ascii_digit c ≡ true → digit_value c < 10
digit_value_below c e = grind (arith, nat_tests)

pub all_digits : (ds : List ℕ) → list_all is_ascii_digit ds ≡ true → AllDigits 10 ds
all_digits [] e = tt
all_digits (c ∷ cs) e =
    let parts = and_parts (is_ascii_digit c) (list_all is_ascii_digit cs) e in
    (digit_value_below c parts.0, all_digits cs parts.1)

pub digits_value_below : (ds : List ℕ) → list_all is_ascii_digit ds ≡ true → digits_value 10 ds < 10 ^ length ds
digits_value_below ds e = digits_value-lt 10 ds (all_digits ds e)

-- one digit more
pub below_more : (value d k : ℕ) → value < 10 ^ k → d < 10 → value * 10 + d < 10 ^ (k + 1)
below_more value d k below digit =
    let e : 10 ^ (k + 1) ≡ 10 ^ k * 10 = rw add-one (pow-suc 10 k) in
    omega arith

pub pow_at_most : (i j : ℕ) → i ≤ j → 10 ^ i ≤ 10 ^ j
pow_at_most i j h = pow-le-pow_right {n = 10} (lit< tt) h

-- the digits that stand first count 10 to the number of those behind them
shifted : (n d p q v x y : ℕ) → q ≡ p * 10 → x ≡ (n * 10 + d) * p + v → y ≡ (0 * 10 + d) * p + v → x ≡ n * q + y
shifted n d p q v x y tenfold first rest = rw (tenfold, first, rest) (omega arith)

pub digits_value_after-is : (n : ℕ) (ds : List ℕ) → digits_value_after 10 n ds ≡ n * 10 ^ length ds + digits_value 10 ds
digits_value_after-is n [] = omega arith
digits_value_after-is n (c ∷ cs) =
    shifted n (digit_value c) (10 ^ length cs) _ (digits_value 10 cs) _ _ (pow-suc 10 (length cs))
    (digits_value_after-is (n * 10 + digit_value c) cs)
    (digits_value_after-is (0 * 10 + digit_value c) cs)

-- the parts of twelve digits and six decimals or fewer
pub scaled_below : (value digits decimals : ℕ) → value < 10 ^ (digits + decimals) → digits ≤ 12 → decimals ≤ 6 → value * 10 ^ (6 - decimals) < 2 ^ 64
scaled_below value digits decimals below whole short =
    let scale = 10 ^ (6 - decimals) in
    let wide : 10 ^ (digits + decimals) * scale ≡ 10 ^ (digits + decimals + (6 - decimals)) = sym (pow-add 10 (digits + decimals) (6 - decimals)) in
    let most : 10 ^ (digits + decimals + (6 - decimals)) ≤ 10 ^ 18 = pow_at_most _ 18 (omega arith) in
    let scaled : value * scale ≤ 10 ^ (digits + decimals) * scale = mul-le-mul_right scale (le_of_lt below) in
    omega arith

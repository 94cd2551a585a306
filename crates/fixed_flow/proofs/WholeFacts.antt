-- Which texts are whole numbers.
use Rattle.std.proofs.Common.{◌≡◌, ℕ, ◌^◌, ◌<◌, ◌≤◌, ◌⊎◌, ◌&&◌, inl, inr, true, false, List, length, length-take, take, Some, None, refl, arith, nat_lt, nat_le}
use Rattle.std.proofs.lemmas.Bool.{and_right}
use Rattle.std.proofs.lemmas.Bool.Decides.{nat_tests}
use Rattle.std.specs.Char.{is_ascii_digit}
use Rattle.std.specs.List.{list_all}
use Rattle.std.specs.Str.Parse.{digits_value}
use Rattle.fixed_flow.specs.Spelling.{whole_of}
use Rattle.fixed_flow.proofs.DigitFacts.{digits_value_below, pow_at_most}

miscounted : (most : ℕ) (text : List ℕ) → (length text ≡ 0) ⊎ (most < length text) → (nat_lt 0 (length text) && nat_le (length text) most) ≡ false
miscounted most text (inl empty) = grind (arith, nat_tests)
miscounted most text (inr long) = grind (arith, nat_tests)

pub whole_of-miscounted : (text : List ℕ) → (length text ≡ 0) ⊎ (9 < length text) → whole_of text ≡ None
unfolding whole_of
whole_of-miscounted text odd = rw (miscounted 9 text odd) refl

pub whole_of-other : (text : List ℕ) → list_all is_ascii_digit text ≡ false → whole_of text ≡ None
unfolding whole_of
whole_of-other text other = rw (and_right (nat_lt 0 (length text) && nat_le (length text) 9) (list_all is_ascii_digit text) other) refl

counted : (most : ℕ) (text : List ℕ) → 0 < length text → length text ≤ most → (nat_lt 0 (length text) && nat_le (length text) most) ≡ true
counted most text some short = grind (arith, nat_tests)

pub whole_of-digits : (text : List ℕ) → 0 < length text → length text ≤ 9 → list_all is_ascii_digit text ≡ true → whole_of text ≡ Some (digits_value 10 text)
unfolding whole_of
whole_of-digits text some short digits = rw (counted 9 text some short, digits) refl

-- the value of fewer than nine digits
pub below_nine : (text : List ℕ) (i : ℕ) → list_all is_ascii_digit (take i text) ≡ true → i < 9 → digits_value 10 (take i text) < 10 ^ 8
below_nine text i digits few =
    let count : length (take i text) ≤ 8 = omega (arith, length-take i text) in
    omega (arith, digits_value_below (take i text) digits, pow_at_most (length (take i text)) 8 count)

-- A number's one spelling.
use Rattle.std.specs.Result.{OkIff, result_ok}
use Rattle.std.specs.Prelude.{Result, Ok, Err, bytes_eq, nat_lt, slice_index, unwrap_or, is_some}
use Rattle.std.specs.Char.{is_ascii_digit, digit_value}
use Rattle.std.specs.Fmt.{decimal}
use Rattle.std.specs.List.{list_all}
use Rattle.std.specs.Str.Parse.{AllDigits, digits_value}
use Rattle.std.proofs.Common.{◌≡◌, ◌≢◌, ℕ, ◌<◌, ◌≤◌, ◌^◌, ◌⊎◌, ◌&&◌, Bool, true, false, cond, inl, inr, List, [], ◌∷◌, length, length-take, take, Option, Some, None, refl, sym, ap, ◌∙◌, arith}
use Rattle.std.proofs.lemmas.Bool.{and_from, and_parts, cases_lt, lt-ltb, true≢false}
use Rattle.std.proofs.lemmas.Bool.Decides.{nat_tests}
use Rattle.std.proofs.lemmas.Fmt.{decimal_digit, decimal_is_IsNumeral, decimal_nonempty, decimal-digits_value, first_decimal, length-decimal-le}
use Rattle.std.proofs.lemmas.Slice.Eq.{bytes_eq-Decides}
use Rattle.std.proofs.lemmas.Str.Parse.{numerals_by_value, tells_digits}
use Rattle.fixed_flow.proofs.DigitFacts.{all_digits, digits_value_below, pow_at_most}
use Rattle.saved_run.specs.Numbers.{number_of}

pub none_is_no_some : {A : Type 0} (a : A) → ◌≡◌ {A = Option A} None (Some a) → ⊥
none_is_no_some a same = let z : ◌≡◌ {A = ℕ} 0 1 = ap (λ o. cond (is_some o) 1 0) same in omega (arith, z)

pub some_same : {A : Type 0} (a b : A) → Some a ≡ Some b → a ≡ b
some_same a b same = ap (λ o. unwrap_or o a) same

-- a test that gave something was passed
pub passed : {A : Type 0} (test : Bool) (a b : A) → cond test (Some a) None ≡ Some b → (test ≡ true) × (a ≡ b)
passed true a b same = (refl, some_same a b same)
passed false a b same = absurd (none_is_no_some b same)

digit_is : (c : ℕ) → digit_value c < 10 → is_ascii_digit c ≡ true
digit_is c small = grind (arith, nat_tests)

digits_are : (text : List ℕ) → AllDigits 10 text → list_all is_ascii_digit text ≡ true
digits_are [] all = refl
digits_are (c ∷ cs) all = and_from _ _ (digit_is c all.0) (digits_are cs all.1)

pub digits_of-decimal : (n : ℕ) → n < 2 ^ 64 → list_all is_ascii_digit (decimal n) ≡ true
digits_of-decimal n small = digits_are (decimal n) (decimal_is_IsNumeral n small).0.1

-- a text is read as its number where it is what is printed of it
printed : (text : List ℕ) → digits_value 10 text < 2 ^ 64 → decimal (digits_value 10 text) ≡ text → number_of text ≡ Some (digits_value 10 text)
unfolding number_of
printed text small is =
    let value = digits_value 10 text in
    let test : (nat_lt value (2 ^ 64) && bytes_eq (decimal value) text) ≡ true = and_from _ _ (lt-ltb value (2 ^ 64) small) ((bytes_eq-Decides (decimal value) text).1 is) in
    ap (λ t. cond t (Some value) None) test

pub number_of-decimal : (n : ℕ) → n < 2 ^ 64 → number_of (decimal n) ≡ Some n
number_of-decimal n small =
    let value : digits_value 10 (decimal n) ≡ n = (decimal_is_IsNumeral n small).1 in
    printed (decimal n) (omega (arith, value, small)) (ap decimal value) ∙ ap Some value

pub decimal-number_of : (text : List ℕ) (n : ℕ) → number_of text ≡ Some n → (n < 2 ^ 64) × (text ≡ decimal n)
unfolding number_of
decimal-number_of text n reads =
    let value = digits_value 10 text in
    let found = passed (nat_lt value (2 ^ 64) && bytes_eq (decimal value) text) value n reads in
    let parts = and_parts (nat_lt value (2 ^ 64)) (bytes_eq (decimal value) text) found.0 in
    let small : value < 2 ^ 64 = grind (arith, nat_tests, parts.0) in
    (omega (arith, small, found.1), sym ((bytes_eq-Decides (decimal value) text).0 parts.1) ∙ ap decimal found.1)

-- the texts that are no number, since they are printed of none
unprinted : (text : List ℕ) (found : Option ℕ) → number_of text ≡ found → ((n : ℕ) → n < 2 ^ 64 → text ≡ decimal n → ⊥) → found ≡ None
unprinted text None is never = refl
unprinted text (Some n) is never = let by = decimal-number_of text n is in absurd (never n by.0 by.1)

pub number_of-miscounted : (text : List ℕ) → (length text ≡ 0) ⊎ (20 < length text) → number_of text ≡ None
number_of-miscounted text odd = unprinted text (number_of text) refl (λ n small is.
    let some = decimal_nonempty n small in
    let short = length-decimal-le 20 n (omega arith) (omega (arith, small)) small in
    elim odd [ inl empty ↦ omega (arith, empty, some, ap length is) | inr long ↦ omega (arith, long, short, ap length is) ])

pub number_of-other : (text : List ℕ) → list_all is_ascii_digit text ≡ false → number_of text ≡ None
number_of-other text other = unprinted text (number_of text) refl (λ n small is. true≢false (sym (digits_of-decimal n small) ∙ ap (list_all is_ascii_digit) (sym is) ∙ other))

pub number_of-led : (text : List ℕ) → 1 < length text → slice_index text 0 ≡ 48 → number_of text ≡ None
number_of-led text long zeroed = unprinted text (number_of text) refl (λ n small is. elim (cases_lt 0 n) [
  | inl some ↦ omega (arith, first_decimal n some small, zeroed, ap (λ t. slice_index t 0) is)
  | inr none ↦ omega (arith, long, ap length (is ∙ decimal_digit n (omega (arith, none))))
])

too_great : (text : List ℕ) → 2 ^ 64 ≤ digits_value 10 text → number_of text ≡ cond (nat_lt (digits_value 10 text) (2 ^ 64)) (Some (digits_value 10 text)) None
unfolding number_of
too_great text great = let large : nat_lt (digits_value 10 text) (2 ^ 64) ≡ false = grind (arith, nat_tests, great) in rw large refl

-- and those that are, where they aren't too great
pub number_of-digits : (text : List ℕ) → 0 < length text → list_all is_ascii_digit text ≡ true → (1 < length text → slice_index text 0 ≢ 48) →
    number_of text ≡ cond (nat_lt (digits_value 10 text) (2 ^ 64)) (Some (digits_value 10 text)) None
number_of-digits text some digits differs =
    let value = digits_value 10 text in
    let alone : slice_index text 0 ≡ 48 → length text ≡ 1 = λ zeroed. elim (cases_lt 1 (length text)) [ inl long ↦ absurd (differs long zeroed) | inr other ↦ omega (arith, some, other) ] in
    elim (cases_lt value (2 ^ 64)) [
      | inl small ↦
          let own = decimal-digits_value (numerals_by_value (AllDigits 10) tells_digits) text (all_digits text digits) some alone small in
          printed text small own ∙ sym (ap (λ t. cond t (Some value) None) (lt-ltb value (2 ^ 64) small))
      | inr great ↦ too_great text great
    ]

-- the value of fewer than twenty digits
pub below_twenty : (text : List ℕ) (i : ℕ) → list_all is_ascii_digit (take i text) ≡ true → i < 20 → digits_value 10 (take i text) < 10 ^ 19
below_twenty text i digits few =
    let count : length (take i text) ≤ 19 = omega (arith, length-take i text) in
    omega (arith, digits_value_below (take i text) digits, pow_at_most (length (take i text)) 19 count)

-- a conversion to 64 bits
pub tried : {E : Type 0} (result : Result ℕ E) (value : ℕ) → OkIff result (value < 2 ^ 64) value → result_ok result ≡ cond (nat_lt value (2 ^ 64)) (Some value) None
tried (Ok x) value is =
    let fits : nat_lt value (2 ^ 64) ≡ true = lt-ltb value (2 ^ 64) is.0 in
    ap Some is.1 ∙ sym (ap (λ t. cond t (Some value) None) fits)
tried (Err e) value is =
    let large : nat_lt value (2 ^ 64) ≡ false = elim (cases_lt value (2 ^ 64)) [ inl small ↦ absurd (is small) | inr other ↦ grind (arith, nat_tests, other) ] in
    sym (ap (λ t. cond t (Some value) None) large)

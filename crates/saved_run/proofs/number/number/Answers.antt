use Rattle.std.proofs.Common.{◌≡◌, ◌≢◌, ◌-◌, ◌<◌, true, length, sym, ap, ◌∙◌, inl, inr, arith, take_all, get_or, Some, None, cond, nat_lt, ◌^◌}
use Rattle.std.proofs.lemmas.Bool.{and_from}
use Rattle.std.proofs.lemmas.Bool.Decides.{nat_tests}
use Rattle.std.proofs.lemmas.List.Folds.{list_all_more, list_all_at}
use Rattle.std.proofs.lemmas.Int.Digits.{digits_value_more}
use Rattle.std.specs.Str.Parse.{digits_value}
use Rattle.std.specs.Char.{is_ascii_digit, digit_value}
use Rattle.fixed_flow.proofs.DigitFacts.{digit_value-at_digit, digit_value_below}
use Rattle.saved_run.proofs.Numbers.{tried, below_twenty, number_of-digits, number_of-led, number_of-miscounted, number_of-other}
use Rattle.saved_run.proofs.number.number.Goals as goal
use Rattle.saved_run.proofs.number.number.Goals.{then-is_empty-via-then-is_empty, then-is_empty-via-else-is_empty+then-text-gt-MOST_DIGITS, else-text-gt1-via-then-text-gt1+else-text-eq48, else-text-gt1-via-else-text-gt1}

pub returns-then-is_empty : goal.returns-then-is_empty
returns-then-is_empty c =
    elim c.then-is_empty.branch [
      | then-is_empty-via-then-is_empty w ↦ let empty : length c.args.text.now ≡ 0 = grind (arith, nat_tests) in sym (number_of-miscounted c.args.text.now (inl empty))
      | then-is_empty-via-else-is_empty+then-text-gt-MOST_DIGITS w ↦ sym (number_of-miscounted c.args.text.now (inr w.if-text-gt-MOST_DIGITS.true))
    ]

pub returns-then-text-eq48 : goal.returns-then-text-eq48
returns-then-text-eq48 c = sym (number_of-led c.args.text.now c.if-text-gt1.true c.if-text-eq48.true)

pub returns-then-not-is_ascii_digit : goal.returns-then-not-is_ascii_digit
returns-then-not-is_ascii_digit c =
    sym (number_of-other c.args.text.now (
    list_all_at is_ascii_digit c.args.text.now c.loop-byte.byte-index 0 c.loop-byte-test.true
    (sym c.is_ascii_digit.ensures.value ∙ c.if-not-is_ascii_digit.true)
    ))

pub overflow_mul-value : goal.overflow_mul-value
overflow_mul-value c = omega (arith, below_twenty c.args.text.now c.loop-byte.byte-index c.loop-byte.invariant.digits (omega arith))

pub overflow_add-value : goal.overflow_add-value
overflow_add-value c =
    let byte = get_or c.args.text.now c.loop-byte.byte-index 0 in
    let digit : is_ascii_digit byte ≡ true = sym c.is_ascii_digit.ensures.value ∙ c.if-not-is_ascii_digit.false in
    omega (arith, below_twenty c.args.text.now c.loop-byte.byte-index c.loop-byte.invariant.digits (omega arith), digit_value_below byte digit, digit_value-at_digit byte digit)

pub loop-byte-preserved : goal.loop-byte-preserved
loop-byte-preserved c =
    let text = c.args.text.now in
    let i = c.loop-byte.byte-index in
    let digit : is_ascii_digit (get_or text i 0) ≡ true = sym c.is_ascii_digit.ensures.value ∙ c.if-not-is_ascii_digit.false in record {
      digits = list_all_more is_ascii_digit text i 0 c.loop-byte-test.true ∙ and_from _ _ c.loop-byte.invariant.digits digit;
      value = let worth : get_or text i 0 - 48 ≡ digit_value (get_or text i 0) = omega (arith, digit_value-at_digit (get_or text i 0) digit) in
          omega (arith, digits_value_more 10 text i c.loop-byte-test.true, c.loop-byte.invariant.value, worth);
    }

pub returns : goal.returns
returns c =
    let text = c.args.text.now in
    let whole = take_all c.loop-byte.byte-index text c.loop-byte-test.false in
    let value : c.loop-byte.value ≡ digits_value 10 text = rw whole at c.loop-byte.invariant.value in
    let some : 0 < length text = grind (arith, nat_tests) in
    let differs : 1 < length text → get_or text 0 0 ≢ 48 = elim c.else-text-gt1.branch [
      | else-text-gt1-via-then-text-gt1+else-text-eq48 w ↦ λ long. w.if-text-eq48.false
      | else-text-gt1-via-else-text-gt1 w ↦ λ long. absurd (omega (arith, w.if-text-gt1.false, long))
    ] in
    c.ok.ensures.value ∙ tried c.try_from.result c.loop-byte.value c.try_from.ensures
    ∙ ap (λ value. cond (nat_lt value (2 ^ 64)) (Some value) None) value
    ∙ sym (number_of-digits text some (rw whole at c.loop-byte.invariant.digits) differs)

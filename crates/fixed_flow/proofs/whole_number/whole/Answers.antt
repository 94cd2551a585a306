use Rattle.std.proofs.Common.{◌≡◌, ◌-◌, true, length, sym, ap, ◌∙◌, inl, inr, arith, take_all, get_or, Some}
use Rattle.std.proofs.lemmas.Bool.{and_from}
use Rattle.std.proofs.lemmas.Bool.Decides.{nat_tests}
use Rattle.std.proofs.lemmas.List.Folds.{list_all_more, list_all_at}
use Rattle.std.proofs.lemmas.Int.Digits.{digits_value_more}
use Rattle.std.specs.Char.{is_ascii_digit, digit_value}
use Rattle.fixed_flow.proofs.DigitFacts.{digit_value-at_digit, digit_value_below}
use Rattle.fixed_flow.proofs.WholeFacts.{whole_of-miscounted, whole_of-other, whole_of-digits, below_nine}
use Rattle.fixed_flow.proofs.whole_number.whole.Goals as goal
use Rattle.fixed_flow.proofs.whole_number.whole.Goals.{then-is_empty-via-then-is_empty, then-is_empty-via-else-is_empty+then-text-gt-MOST_DIGITS}

pub returns-then-is_empty : goal.returns-then-is_empty
returns-then-is_empty c =
    elim c.then-is_empty.branch [
      | then-is_empty-via-then-is_empty w ↦ let empty : length c.args.text.now ≡ 0 = grind (arith, nat_tests) in sym (whole_of-miscounted c.args.text.now (inl empty))
      | then-is_empty-via-else-is_empty+then-text-gt-MOST_DIGITS w ↦ sym (whole_of-miscounted c.args.text.now (inr w.if-text-gt-MOST_DIGITS.true))
    ]

pub returns-then-not-is_ascii_digit : goal.returns-then-not-is_ascii_digit
returns-then-not-is_ascii_digit c =
    sym (whole_of-other c.args.text.now (
    list_all_at is_ascii_digit c.args.text.now c.loop-byte.byte-index 0 c.loop-byte-test.true
    (sym c.is_ascii_digit.ensures.value ∙ c.if-not-is_ascii_digit.true)
    ))

pub overflow_mul-value : goal.overflow_mul-value
overflow_mul-value c = omega (arith, below_nine c.args.text.now c.loop-byte.byte-index c.loop-byte.invariant.digits (omega arith))

pub overflow_add-value : goal.overflow_add-value
overflow_add-value c =
    let byte = get_or c.args.text.now c.loop-byte.byte-index 0 in
    let digit : is_ascii_digit byte ≡ true = sym c.is_ascii_digit.ensures.value ∙ c.if-not-is_ascii_digit.false in
    omega (arith, below_nine c.args.text.now c.loop-byte.byte-index c.loop-byte.invariant.digits (omega arith), digit_value_below byte digit, digit_value-at_digit byte digit)

pub loop-byte-preserved : goal.loop-byte-preserved
loop-byte-preserved c =
    let text = c.args.text.now in
    let i = c.loop-byte.byte-index in
    let digit : is_ascii_digit (get_or text i 0) ≡ true = sym c.is_ascii_digit.ensures.value ∙ c.if-not-is_ascii_digit.false in record {
      digits = list_all_more is_ascii_digit text i 0 c.loop-byte-test.true ∙ and_from _ _ c.loop-byte.invariant.digits digit;
      value = let worth : get_or text i 0 - 48 ≡ digit_value (get_or text i 0) = omega (arith, digit_value-at_digit (get_or text i 0) digit) in
          omega (arith, digits_value_more 10 text i c.loop-byte-test.true, c.loop-byte.invariant.value, worth);
    }

pub returns : goal.returns
returns c =
    let text = c.args.text.now in
    let whole = take_all c.loop-byte.byte-index text c.loop-byte-test.false in
    ap Some (rw whole at c.loop-byte.invariant.value) ∙ sym (whole_of-digits text (grind (arith, nat_tests)) (omega arith) (rw whole at c.loop-byte.invariant.digits))

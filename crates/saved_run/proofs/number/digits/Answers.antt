use Rattle.std.proofs.Common.{◌≡◌, false, get_or, sym, ◌∙◌, arith}
use Rattle.std.specs.Char.{is_ascii_digit}
use Rattle.saved_run.proofs.Fronts.{digit_count_is}
use Rattle.saved_run.proofs.number.digits.Goals as goal

pub returns-then-not-is_ascii_digit : goal.returns-then-not-is_ascii_digit
returns-then-not-is_ascii_digit c =
    let stops : is_ascii_digit (get_or c.args.text.now c.loop-i.i 0) ≡ false = sym c.is_ascii_digit.ensures.value ∙ c.if-not-is_ascii_digit.true in
    sym (digit_count_is c.args.text.now c.loop-i.i (omega arith) c.loop-i.invariant (λ within. stops))

pub returns : goal.returns
returns c = sym (digit_count_is c.args.text.now _ (omega arith) (λ k below. c.loop-i.invariant k (omega (arith, below))) (λ within. absurd (omega (arith, within))))

use Rattle.std.proofs.Common.{sym, arith}
use Rattle.fixed_flow.proofs.PassFacts.{amount_of-is, amount_of-too_long, below_nineteen}
use Rattle.fixed_flow.proofs.spelling.parts.Goals as goal

pub returns-then-text-gt-LONGEST : goal.returns-then-text-gt-LONGEST
returns-then-text-gt-LONGEST c = sym (amount_of-too_long c.args.text.now c.if-text-gt-LONGEST.true)

pub loop-at-init : goal.loop-at-init
loop-at-init c = record { same = amount_of-is c.args.text.now; below = omega arith }

pub overflow_mul-value : goal.overflow_mul-value
overflow_mul-value c = omega (arith, below_nineteen c.loop-at.value c.loop-at.at c.loop-at.point c.loop-at.invariant.below (omega arith))

pub overflow_add-value : goal.overflow_add-value
overflow_add-value c = omega (arith, below_nineteen c.loop-at.value c.loop-at.at c.loop-at.point c.loop-at.invariant.below (omega arith))

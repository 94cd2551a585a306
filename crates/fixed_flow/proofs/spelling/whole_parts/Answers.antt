use Rattle.std.proofs.Common.{arith}
use Rattle.fixed_flow.proofs.DigitFacts.{pow_at_most}
use Rattle.fixed_flow.proofs.spelling.whole_parts.Goals as goal

pub overflow_mul-result : goal.overflow_mul-result
overflow_mul-result c = omega (arith, pow_at_most c.args.digits 12 (omega arith))

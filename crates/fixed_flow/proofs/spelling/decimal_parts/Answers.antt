use Rattle.std.proofs.Common.{◌-◌, arith}
use Rattle.fixed_flow.proofs.DigitFacts.{scaled_below, pow_at_most}
use Rattle.fixed_flow.proofs.spelling.decimal_parts.Goals as goal

pub pow-requires : goal.pow-requires
pow-requires c = omega (arith, pow_at_most (6 - c.args.decimals) 6 (omega arith))

pub overflow_mul-result : goal.overflow_mul-result
overflow_mul-result c =
    let below = scaled_below c.args.value c.args.digits c.args.decimals c.requires c.if-digits-gt-MOST_WHOLE_DIGITS.false c.if-decimals-gt-MOST_DECIMALS.false in
    rw c.pow.ensures (record { fits = below })

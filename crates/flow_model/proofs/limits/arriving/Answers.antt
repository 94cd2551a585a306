use Rattle.std.proofs.Common.{arith}
use Rattle.flow_model.proofs.limits.arriving.Goals as goal

pub share_floor-requires-clause-divisor : goal.share_floor-requires-clause-divisor
share_floor-requires-clause-divisor c = omega (arith, c.requires.positive, c.requires.ratio)

pub share_floor-requires-clause-share : goal.share_floor-requires-clause-share
share_floor-requires-clause-share c = rw (c.from.ensures, c.from-2.ensures) c.requires.ratio

use Rattle.std.specs.Prelude.{None}
use Rattle.std.proofs.Common.{arith}
use Rattle.std.proofs.lemmas.List.{ext_get_or}
use Rattle.region_body.proofs.pause.hold_the_same.Goals as goal

pub returns : goal.returns
returns c = λ yes. ext_get_or None c.args.seen.now c.args.put.now c.requires (λ k lt. c.loop-j.invariant k (omega (arith, lt, c.loop-j-test.false)))

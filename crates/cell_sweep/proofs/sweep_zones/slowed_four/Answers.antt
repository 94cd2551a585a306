use Rattle.std.proofs.Common.{◌≡◌, ◌+◌, arith}
use Rattle.cell_sweep.proofs.sweep_zones.slowed_four.Goals as goal

pub slowed_one-fourth-requires-clause-swept : goal.slowed_one-fourth-requires-clause-swept
slowed_one-fourth-requires-clause-swept c =
    let was = c.requires.swept in
    let two : c.args.p + 1 + 1 ≡ c.args.p + 2 = omega arith in (
      was.0,
      rw two at (c.slowed_one-third.ensures was.0 (c.slowed_one-second.ensures was.0 was.1)),
      λ q from before. was.2 q (omega (arith, from)) (omega (arith, before)),
    )

pub slowed_one-requires-clause-swept : goal.slowed_one-requires-clause-swept
slowed_one-requires-clause-swept c =
    let was = c.requires.swept in
    let two : c.args.p + 1 + 1 ≡ c.args.p + 2 = omega arith in
    let three : c.args.p + 2 + 1 ≡ c.args.p + 3 = omega arith in
    let third = rw two at (c.slowed_one-third.ensures was.0 (c.slowed_one-second.ensures was.0 was.1)) in (
      was.0,
      rw three at (c.slowed_one-fourth.ensures was.0 third),
      λ q from before. was.2 q (omega (arith, from)) (omega (arith, before)),
    )

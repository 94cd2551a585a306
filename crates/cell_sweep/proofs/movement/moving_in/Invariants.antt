use Rattle.cell_sweep.specs.Moving.{MoveNothingIn}
use Rattle.cell_sweep.proofs.movement.moving_in.Given as goal

abbrev pub invariant-loop-p : goal.invariant-loop-p
invariant-loop-p l = MoveNothingIn l.states l.speeds l.from l.p

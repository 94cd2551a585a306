use Rattle.workerless_modes.proofs.Choosing.{AreRead}
use Rattle.workerless_modes.proofs.choose_mode.networks.Given as goal

abbrev pub invariant-loop-p : goal.invariant-loop-p
invariant-loop-p l = AreRead l.pieces l.p l.nets.items

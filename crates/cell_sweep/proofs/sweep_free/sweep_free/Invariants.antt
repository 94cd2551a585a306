use Rattle.std.proofs.Common.{[]}
use Rattle.cell_sweep.specs.Sweeping.{IsSweptTo}
use Rattle.cell_sweep.proofs.sweep_free.sweep_free.Given as goal

abbrev pub invariant-loop-p : goal.invariant-loop-p
invariant-loop-p l = IsSweptTo l.fn.states [] l.p l.states l.before l.flow

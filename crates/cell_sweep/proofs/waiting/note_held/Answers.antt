use Rattle.std.proofs.Common.{refl, arith}
use Rattle.cell_sweep.specs.CellStates.{cell_state_at}
use Rattle.cell_sweep.proofs.Sets.{done_more}
use Rattle.cell_sweep.proofs.waiting.note_held.Goals as goal

pub loop-p-preserved : goal.loop-p-preserved
loop-p-preserved c =
    done_more (λ k. (cell_state_at c.args.states.now k).n) c.loop-p.before c.loop-p.p (cell_state_at c.args.states.now c.loop-p.p).n 0 (omega arith) refl
    c.loop-p.invariant

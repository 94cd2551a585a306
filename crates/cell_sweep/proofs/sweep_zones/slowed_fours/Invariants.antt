use Rattle.std.proofs.Common.{List, ◌*◌}
use Rattle.cell_sweep.specs.Sweeping.{AreFew, IsSweptTo}
use Rattle.cell_sweep.specs.declared.cell_state.CellState.{CellState}
use Rattle.cell_sweep.proofs.sweep_zones.slowed_fours.Given as goal

abbrev pub invariant-loop-m : goal.invariant-loop-m
invariant-loop-m l = record {
  going : (first : List CellState) × IsSweptTo first l.speeds (4 * l.m) l.states l.before l.flow × AreFew first l.speeds l.all_slow (4 * l.from) (4 * l.to);
  swept : (first : List CellState) → IsSweptTo first l.speeds (4 * l.from) l.initial.states l.initial.before l.enters →
      IsSweptTo first l.speeds (4 * l.m) l.states l.before l.flow;
}

use Rattle.std.proofs.Common.{ℕ, List, ◌*◌}
use Rattle.cell_sweep.specs.Sweeping.{IsFree, IsSweptTo}
use Rattle.cell_sweep.specs.declared.cell_state.CellState.{CellState}
use Rattle.cell_sweep.proofs.sweep_free.sweep_fours.Given as goal

abbrev pub invariant-loop-m : goal.invariant-loop-m
invariant-loop-m l = record {
  going : (first : List CellState) × (speeds : List (ℕ × ℕ)) × IsSweptTo first speeds (4 * l.m) l.states l.before l.flow × IsFree speeds (4 * l.from) (4 * l.to);
  swept : (first : List CellState) (speeds : List (ℕ × ℕ)) → IsSweptTo first speeds (4 * l.from) l.initial.states l.initial.before l.enters →
      IsFree speeds (4 * l.from) (4 * l.to) → IsSweptTo first speeds (4 * l.m) l.states l.before l.flow;
}

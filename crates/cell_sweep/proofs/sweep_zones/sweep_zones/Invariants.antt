use Rattle.std.proofs.Common.{◌≡◌, ◌*◌}
use Rattle.cell_sweep.specs.SpeedZones.{end_before}
use Rattle.cell_sweep.specs.Sweeping.{IsSweptTo}
use Rattle.cell_sweep.proofs.sweep_zones.sweep_zones.Given as goal

abbrev pub invariant-loop-zone : goal.invariant-loop-zone
invariant-loop-zone l = record {
  at : l.m ≡ end_before l.zones l.zone-index;
  swept : IsSweptTo l.initial.states l.speeds (4 * l.m) l.states l.before l.flow;
}

abbrev pub invariant-loop-p : goal.invariant-loop-p
invariant-loop-p l = IsSweptTo l.fn.states l.speeds l.p l.states l.before l.flow

use Rattle.cell_sweep.specs.SpeedZones.{is_all_slow_four, is_slow_four}
use Rattle.cell_sweep.specs.Speeds.{is_slow}
use Rattle.cell_sweep.proofs.ZonesMade.{AreZonesTo}
use Rattle.cell_sweep.proofs.speed_zone.zones_of.Given as goal

abbrev pub invariant-loop-m : goal.invariant-loop-m
invariant-loop-m l = AreZonesTo (is_slow_four (is_slow l.net l.cells)) (is_all_slow_four (is_slow l.net l.cells)) l.from l.m l.slow l.all_slow l.zones.items

use Rattle.delay_report.specs.Places.{AreCellPlaces}
use Rattle.delay_report.proofs.cell_places.cell_places.Given as goal

abbrev pub invariant-loop-i : goal.invariant-loop-i
invariant-loop-i l = AreCellPlaces l.layout.chart l.i l.places.items

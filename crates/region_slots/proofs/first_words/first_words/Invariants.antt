use Rattle.region_slots.proofs.Filling.{AreFilled}
use Rattle.region_slots.proofs.first_words.first_words.Given as goal

abbrev pub invariant-loop-r : goal.invariant-loop-r
invariant-loop-r l = AreFilled l.layout.chart l.start l.words.items l.r

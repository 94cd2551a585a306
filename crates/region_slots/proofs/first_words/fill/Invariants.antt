use Rattle.region_slots.proofs.Filling.{IsFilling}
use Rattle.region_slots.proofs.first_words.fill.Given as goal

abbrev pub invariant-loop-j : goal.invariant-loop-j
invariant-loop-j l = IsFilling l.layout.chart l.start l.fn.words.items l.words.items l.r l.j

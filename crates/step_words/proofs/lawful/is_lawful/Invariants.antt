use Rattle.std.proofs.Common.{ℕ, ◌<◌}
use Rattle.step_words.proofs.Steps.{StandsClose}
use Rattle.step_words.proofs.lawful.is_lawful.Given as goal

abbrev pub invariant-loop-r : goal.invariant-loop-r
invariant-loop-r l = (p : ℕ) → p < l.r → StandsClose l.layout.net l.layout.chart l.steps p

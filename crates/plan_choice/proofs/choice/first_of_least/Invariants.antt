use Rattle.std.specs.Prelude.{slice_index}
use Rattle.std.proofs.Common.{ℕ, ◌<◌, ◌≤◌}
use Rattle.plan_choice.proofs.choice.first_of_least.Given as goal

-- the first of the least delays so far
abbrev pub invariant-loop-p : goal.invariant-loop-p
invariant-loop-p l = record {
  there : l.plan < l.p;
  least : (k : ℕ) → k < l.p → slice_index l.delays l.plan ≤ slice_index l.delays k;
  first : (k : ℕ) → k < l.plan → slice_index l.delays l.plan < slice_index l.delays k;
}

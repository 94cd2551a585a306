use Rattle.std.proofs.Common.{◌≡◌}
use Rattle.flow_model.specs.State.{state_at}
use Rattle.run_trials.proofs.networks.whole_steps.Given as goal

-- the rows are those of step t
abbrev pub invariant-loop-t : goal.invariant-loop-t
invariant-loop-t l = l.now.items ≡ state_at l.net l.t

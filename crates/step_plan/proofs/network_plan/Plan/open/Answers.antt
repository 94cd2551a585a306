use Rattle.std.proofs.Common.{refl}
use Rattle.step_plan.proofs.Sound.{IsSoundPlan-no_records}
use Rattle.step_plan.proofs.network_plan.Plan.open.Goals as goal

pub invariant_of-result : goal.invariant_of-result
invariant_of-result c = rw c.new.ensures.items (record { sound = IsSoundPlan-no_records; counts = refl })

use Rattle.flow_model.proofs.CellLimits.{speed_at-sound}
use Rattle.flow_model.proofs.limits.sending_at.Goals as goal

pub arriving-requires : goal.arriving-requires
arriving-requires c = rw c.speed.ensures (speed_at-sound _ c.args.cell _ c.net.invariant)

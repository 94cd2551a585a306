use Rattle.std.specs.List.{range_with_len}
use Rattle.std.proofs.Common.{◌≡◌, ◌-◌, ◌++◌, false}
use Rattle.region_slots.specs.FieldView.{IsPassOf}
use Rattle.region_slots.specs.Moments.{AreTold, cut_run}
use Rattle.worker_claim.specs.Turns.{HasTurned}
use Rattle.worker_claim.proofs.one_sweep.turns.Given as goal

-- the regions before this one had a turn
abbrev pub invariant-loop-region : goal.invariant-loop-region
invariant-loop-region g l = IsPassOf l.field l.pass × (l.pass.id ≡ l.initial.pass.id) × HasTurned l.field.terms l.initial.pass.knows l.pass.knows l.from l.region l.goal l.driven × (l.driven.all ≡ false) ×
    (l.pass.knows.tried ≡ l.initial.pass.knows.tried ++ range_with_len l.from (l.region - l.from)) × AreTold (g.W.Observer.told_held l.observer (cut_run l.field.terms.setup.now)) (g.W.Observer.told_freed l.observer (cut_run l.field.terms.setup.now)) l.initial.pass.knows.log l.pass.knows.log

use Rattle.std.proofs.Common.{◌≡◌}
use Rattle.region_slots.specs.FieldView.{IsPassOf}
use Rattle.region_slots.specs.Moments.{AreTold, cut_run}
use Rattle.parked_crew.specs.Sweeping.{HasSwept}
use Rattle.parked_crew.proofs.sweep.sweep.Given as goal

-- the regions before this one had a turn
abbrev pub invariant-loop-region : goal.invariant-loop-region
invariant-loop-region g l = IsPassOf l.field l.pass × (l.pass.id ≡ l.initial.pass.id) × HasSwept l.region l.goal l.initial.pass.knows l.pass.knows l.swept ×
    AreTold (g.W.Observer.told_held l.observer (cut_run l.field.terms.setup.now)) (g.W.Observer.told_freed l.observer (cut_run l.field.terms.setup.now)) l.initial.pass.knows.log l.pass.knows.log

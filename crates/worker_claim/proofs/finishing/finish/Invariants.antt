use Rattle.std.specs.Prelude.{IsTrue, if◌then◌else◌}
use Rattle.std.proofs.Common.{◌≡◌, ◌+◌}
use Rattle.region_cut.specs.Cuttings.{region_count}
use Rattle.region_slots.specs.FieldView.{IsPassOf}
use Rattle.region_slots.specs.Turning.{IsWithin}
use Rattle.worker_claim.specs.Driving.{AllReach, steps_left}
use Rattle.region_slots.specs.Moments.{AreTold, cut_run}
use Rattle.worker_claim.proofs.finishing.finish.Given as goal

abbrev pub invariant-loop-all : goal.invariant-loop-all
invariant-loop-all g l = IsPassOf l.field l.pass × (l.pass.id ≡ l.initial.pass.id) × IsWithin l.initial.pass.knows l.pass.knows l.goal × (IsTrue l.all → AllReach (region_count l.field.terms.setup.now.chart.cut) l.goal l.pass.knows) ×
    AreTold (g.W.Observer.told_held l.observer (cut_run l.field.terms.setup.now)) (g.W.Observer.told_freed l.observer (cut_run l.field.terms.setup.now)) l.initial.pass.knows.log l.pass.knows.log

-- each sweep brings a region nearer, and the last one finds all at the goal
abbrev pub decreases-loop-all : goal.decreases-loop-all
decreases-loop-all g l = if l.all then 0 else 1 + steps_left (region_count l.field.terms.setup.now.chart.cut) l.goal l.pass.knows

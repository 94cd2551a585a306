use Rattle.std.proofs.Common.{◌≡◌, ◌≢◌, ◌≤◌, ◌-◌, ◌++◌}
use Rattle.region_cut.specs.Cuttings.{region_count}
use Rattle.region_slots.specs.FieldView.{IsPassOf}
use Rattle.worker_claim.specs.Driving.{HasSwept}
use Rattle.region_slots.specs.Moments.{AreTold, cut_run}
use Rattle.sweeping_crew.specs.Driving.{IsLast, rounds_from}
use Rattle.sweeping_crew.proofs.driving.drive_pausing.Given as goal

-- so many sweeps were made
abbrev pub invariant-loop-made : goal.invariant-loop-made
invariant-loop-made g l = (l.made ≤ l.sweeps) × IsPassOf l.field l.pass × (l.pass.id ≡ l.initial.pass.id) × HasSwept (region_count l.field.terms.setup.now.chart.cut) l.goal l.made l.initial.pass.knows l.pass.knows l.driven × (l.pauses ≤ l.made) ×
    (l.pass.knows.tried ≡ l.initial.pass.knows.tried ++ rounds_from (region_count l.field.terms.setup.now.chart.cut) l.first l.made) ×
    (l.made ≢ 0 → IsLast (region_count l.field.terms.setup.now.chart.cut) l.goal l.made l.initial.pass.knows l.pass.knows l.driven.all) × AreTold (g.W.Observer.told_held l.observer (cut_run l.field.terms.setup.now)) (g.W.Observer.told_freed l.observer (cut_run l.field.terms.setup.now)) l.initial.pass.knows.log l.pass.knows.log

abbrev pub decreases-loop-made : goal.decreases-loop-made
decreases-loop-made g l = l.sweeps - l.made

use Rattle.std.proofs.Common.{◌≡◌}
use Rattle.region_slots.specs.FieldView.{IsPassOf}
use Rattle.region_slots.specs.Moments.{AreTold, cut_run}
use Rattle.region_slots.specs.Turning.{IsWithin}
use Rattle.parked_crew.proofs.member.work.Given as goal

-- the sweeps so far kept what turns keep
abbrev pub invariant-loop : goal.invariant-loop
invariant-loop g l = IsPassOf l.field l.pass × (l.pass.id ≡ l.initial.pass.id) × IsWithin l.initial.pass.knows l.pass.knows l.goal ×
    AreTold (g.W.Observer.told_held l.observer (cut_run l.field.terms.setup.now)) (g.W.Observer.told_freed l.observer (cut_run l.field.terms.setup.now)) l.initial.pass.knows.log l.pass.knows.log

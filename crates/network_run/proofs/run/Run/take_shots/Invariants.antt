use Rattle.std.proofs.Common.{◌≡◌, ◌≤◌}
use Rattle.region_cut.specs.Cuttings.{region_count}
use Rattle.snapshot.specs.Rooms.{IsRoomFor}
use Rattle.snapshot.specs.Shots.{goal_of}
use Rattle.worker_claim.specs.Driving.{AllReach}
use Rattle.region_slots.specs.Moments.{AreTold, cut_run}
use Rattle.network_run.proofs.ToldShots.{AreFirstTold}
use Rattle.network_run.proofs.run.Run.take_shots.Given as goal

-- so many shots are taken, and the run has come to the last one's goal
abbrev pub invariant-loop-i : goal.invariant-loop-i
invariant-loop-i g l = (l.self.terms ≡ l.initial.self.terms) × IsRoomFor l.layout.chart l.room ×
    (l.self.knows.reach ≤ goal_of l.layout.net.steps l.shots l.i) × AllReach (region_count l.layout.chart.cut) (goal_of l.layout.net.steps l.shots l.i) l.self.knows ×
    AreFirstTold (g.W.Observer.told_watching l.observer) (g.W.Observer.told_watched l.observer) (cut_run l.initial.self.terms.setup.now) l.layout.net l.layout.chart.cut l.shots l.i l.text.items ×
    AreTold (g.W.Observer.told_held l.observer (cut_run l.initial.self.terms.setup.now)) (g.W.Observer.told_freed l.observer (cut_run l.initial.self.terms.setup.now)) l.initial.self.knows.log l.self.knows.log

use Rattle.std.proofs.Common.{◌≡◌, subst, ◌∙◌}
use Rattle.network_file.specs.Sound.{IsNetwork}
use Rattle.snapshot.specs.Shots.{rows_at}
use Rattle.snapshot.proofs.ShotLaws.{shown-rows}
use Rattle.ctm.specs.Moment.{MomentValue}
use Rattle.ctm.proofs.moment.Moment.rows.Goals as goal

pub returns-clause-recurrences : goal.returns-clause-recurrences
returns-clause-recurrences c =
    let sound = subst IsNetwork (c.net.view_is ∙ c.net-net.ensures.network ∙ c.layout.ensures.network) c.net.invariant in
    let one_each = rw (c.layout.ensures.network, c.layout.ensures.chart) at c.net-net.ensures.one_each in
    subst (λ (now : MomentValue). c.rows.result.now ≡ rows_at now.net now.chart.cut now.room.steps) c.self.view_is
    (c.rows.ensures ∙ shown-rows c.self.inside.setup.net c.self.inside.setup.chart c.self.inside.room sound one_each c.self.invariant.0 c.self.invariant.1)

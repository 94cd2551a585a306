use Rattle.std.proofs.Common.{refl, sym, ap, ◌∙◌, arith}
use Rattle.connector_flow.proofs.connector_timeline.ConnectorTimeline.idle_until.Goals as goal

pub returns-else-stays_idle : goal.returns-else-stays_idle
returns-else-stays_idle c = λ s from before.
    sym (c.flow.ensures.later s from (omega (arith, before, ap (λ one. one.until) c.self.view_is))) ∙ c.if-not-carries_nothing.ensures refl

use Rattle.std.proofs.Common.{◌+◌, ◌*◌, ◌/◌, ◌%◌, ◌^◌, ap, sym, ◌∙◌}
use Rattle.net_make.specs.Draws.{draw}
use Rattle.net_make.proofs.DrawOrder.{state_after-more}
use Rattle.net_make.proofs.draws.Draws.draw.Goals as goal

pub returns-clause-next : goal.returns-clause-next
returns-clause-next c = λ seed k here. c.advance.ensures ∙ ap (λ state. (6_364_136_223_846_793_005 * state + 1_442_695_040_888_963_407) % 2 ^ 64) here ∙ sym (state_after-more seed k)

pub returns-clause-drawn : goal.returns-clause-drawn
unfolding draw
returns-clause-drawn c = λ seed k here. ap (λ state. state / 2 ^ 32) (returns-clause-next c seed k here)

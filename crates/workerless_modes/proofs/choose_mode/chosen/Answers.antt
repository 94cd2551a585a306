use Rattle.std.proofs.Common.{ap, subst, ◌∙◌}
use Rattle.plan_choice.specs.Choice.{IsChoice}
use Rattle.workerless_modes.specs.ChooseMode.{choice_text}
use Rattle.workerless_modes.proofs.choose_mode.chosen.Goals as goal

pub returns : goal.returns
returns g c = record {
  plan = c.in_ok-choice.choice.plan;
  chosen = subst (λ delays. IsChoice delays c.in_ok-choice.choice.plan) c.in_ok-choice.ensures.delays c.in_ok-choice.ensures.plan;
  text_is = c.in_ok-text.ensures ∙ ap (λ delays. choice_text delays c.in_ok-choice.choice.plan) c.in_ok-choice.ensures.delays;
}

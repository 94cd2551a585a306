use Rattle.std.proofs.Common.{◌≡◌, ◌∷◌, [], ap, subst, sym, ◌∙◌}
use Rattle.std.proofs.lemmas.Result.{IfOk-weaker}
use Rattle.flow_model.specs.State.{delay_of, state_at}
use Rattle.region_step.specs.Regions.{HaveCome, RegionsValue}
use Rattle.region_step.specs.Setup.{SetupValue}
use Rattle.region_step.specs.Starting.{IsTrueStart}
use Rattle.plan_choice.proofs.whole_run.whole_delay.Goals as goal

pub new-requires-2 : goal.new-requires-2
new-requires-2 c =
    let same : c.net.inside.steps ≡ c.in_ok-setup.setup.net.steps =
    ap (λ net. net.steps) (c.net.view_is ∙ sym (ap (λ setup. setup.net) c.in_ok-setup.ensures.setup ∙ c.in_ok-layout.ensures.network)) in
    let steps : c.in_ok-steps.steps.items ≡ c.in_ok-setup.setup.net.steps ∷ [] = c.in_ok-steps.ensures.items_if_clones_equal (λ y same. same) ∙ ap (λ t. t ∷ []) same in
    subst (λ steps. HaveCome c.in_ok-setup.setup steps c.in_ok-list.list.items) (sym steps) c.in_ok-list.ensures

pub returns-clause-delay : goal.returns-clause-delay
returns-clause-delay c =
    let net = ap (λ (regions : RegionsValue). regions.setup.net) c.new-2.ensures ∙ ap (λ (setup : SetupValue). setup.net) c.in_ok-setup.ensures.setup ∙ c.in_ok-layout.ensures.network in
    let true_start = subst (λ (regions : RegionsValue). IsTrueStart regions.setup.net regions.setup.chart.cut regions.setup.start) (sym c.new-2.ensures) c.in_ok-setup.ensures.true_start in
    IfOk-weaker c.run_delay-2.result _ _ (λ sum told. told true_start ∙ ap (λ net. delay_of (state_at net net.steps)) net) c.run_delay-2.ensures.recurrences

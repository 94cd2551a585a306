use Rattle.std.specs.Prelude.{replicate}
use Rattle.std.proofs.Common.{◌≡◌, ℕ, length, ap, arith, refl, subst, sym, ◌∙◌}
use Rattle.network_file.specs.Sound.{IsNetwork}
use Rattle.region_cut.specs.Cuttings.{region_count}
use Rattle.region_cut.specs.LawfulSteps.{AreLawful}
use Rattle.flow_model.specs.State.{state_at}
use Rattle.region_step.specs.Starting.{Fits, IsTrueStart}
use Rattle.region_step.proofs.StartLaws.{zero_start-fits, zero_start-lawful, zero_start-true}
use Rattle.region_step.proofs.start.Start.zero.Goals as goal

pub returns-clause-start : goal.returns-clause-start
returns-clause-start c =
    let steps : c.in_ok-steps.steps.items ≡ replicate (region_count c.args.layout.now.chart.cut) 0 =
    c.in_ok-steps.ensures.items_if_clones_equal (λ y same. same) ∙ ap (λ n. replicate {A = ℕ} n 0) c.regions.ensures.count in
    let cells : length c.net.inside.cells.items ≡ length c.args.layout.now.net.cells = ap (λ net. length net.cells) (c.net.view_is ∙ c.net-net.ensures.network) in
    let long : c.len.result ≡ length c.args.layout.now.net.cells = omega (arith, c.len.ensures, c.net.inside.cells.ok.0, cells) in
    let earlier : c.in_ok-earlier.earlier.items ≡ replicate (length c.args.layout.now.net.cells) 0 =
    c.in_ok-earlier.ensures.items_if_clones_equal (λ y same. same) ∙ ap (λ n. replicate {A = ℕ} n 0) long in
    rw (steps, earlier, c.in_ok-rows.ensures ∙ ap (λ net. state_at net 0) c.net-net.ensures.network) refl

pub returns-clause-fits : goal.returns-clause-fits
returns-clause-fits c =
    subst (Fits c.args.layout.now.net c.args.layout.now.chart.cut) (sym (returns-clause-start c)) (zero_start-fits c.args.layout.now.net c.args.layout.now.chart.cut (subst IsNetwork (c.net.view_is ∙ c.net-net.ensures.network) c.net.invariant))

pub returns-clause-lawful : goal.returns-clause-lawful
returns-clause-lawful c =
    subst (λ start. AreLawful c.args.layout.now.net c.args.layout.now.chart.cut start.steps) (sym (returns-clause-start c)) (zero_start-lawful c.args.layout.now.net c.args.layout.now.chart.cut)

pub returns-clause-true_start : goal.returns-clause-true_start
returns-clause-true_start c =
    subst (IsTrueStart c.args.layout.now.net c.args.layout.now.chart.cut) (sym (returns-clause-start c)) (zero_start-true c.args.layout.now.net c.args.layout.now.chart.cut)

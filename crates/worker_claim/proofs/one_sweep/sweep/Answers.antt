use Rattle.std.proofs.Common.{subst, ◌∙◌, arith}
use Rattle.region_cut.specs.Cuttings.{region_count}
use Rattle.border_rows.specs.declared.view.Terms.{Terms}
use Rattle.region_slots.specs.Moments.{cut_run}
use Rattle.worker_claim.specs.Turns.{HasTurned}
use Rattle.worker_claim.proofs.Nearing.{nearer}
use Rattle.worker_claim.proofs.Rounds.{order-round, true-unless}
use Rattle.worker_claim.proofs.Sweeping.{added-up, round-swept}
use Rattle.region_slots.proofs.Observed.{told-more}
use Rattle.worker_claim.proofs.one_sweep.sweep.Goals as goal

pub returns-clause-swept : goal.returns-clause-swept
returns-clause-swept g c =
    let terms : Terms = c.args.field.now.terms in
    let later : HasTurned terms c.args.pass.now.knows c.turns-later.new.pass.knows c.args.first (region_count terms.setup.now.chart.cut) c.args.goal c.turns-later.result =
    subst (λ n. HasTurned terms c.args.pass.now.knows c.turns-later.new.pass.knows c.args.first n c.args.goal c.turns-later.result) c.regions-regions.ensures c.turns-later.ensures.turned in
    round-swept terms c.args.pass.now.knows c.turns-later.new.pass.knows c.turns-earlier.new.pass.knows c.args.first c.args.goal c.turns-later.result c.turns-earlier.result _ later c.turns-earlier.ensures.turned
    (added-up terms c.args.pass.now.knows c.turns-later.new.pass.knows c.turns-earlier.new.pass.knows c.args.first c.args.goal c.from.result c.turns-later.result c.turns-earlier.result (omega (arith, c.requires.there))
    (c.from.ensures ∙ c.regions-regions.ensures) later c.turns-earlier.ensures.turned)

pub returns-clause-nearer : goal.returns-clause-nearer
returns-clause-nearer g c = λ whole below.
    let terms : Terms = c.args.field.now.terms in
    let later : HasTurned terms c.args.pass.now.knows c.turns-later.new.pass.knows c.args.first (region_count terms.setup.now.chart.cut) c.args.goal c.turns-later.result =
    subst (λ n. HasTurned terms c.args.pass.now.knows c.turns-later.new.pass.knows c.args.first n c.args.goal c.turns-later.result) c.regions-regions.ensures c.turns-later.ensures.turned in
    nearer terms c.args.pass.now.knows c.turns-earlier.new.pass.knows c.args.goal _
    (added-up terms c.args.pass.now.knows c.turns-later.new.pass.knows c.turns-earlier.new.pass.knows c.args.first c.args.goal c.from.result c.turns-later.result c.turns-earlier.result (omega (arith, c.requires.there))
    (c.from.ensures ∙ c.regions-regions.ensures) later c.turns-earlier.ensures.turned) whole below

pub returns-clause-counted : goal.returns-clause-counted
returns-clause-counted g c =
    let terms : Terms = c.args.field.now.terms in
    let later : HasTurned terms c.args.pass.now.knows c.turns-later.new.pass.knows c.args.first (region_count terms.setup.now.chart.cut) c.args.goal c.turns-later.result =
    subst (λ n. HasTurned terms c.args.pass.now.knows c.turns-later.new.pass.knows c.args.first n c.args.goal c.turns-later.result) c.regions-regions.ensures c.turns-later.ensures.turned in
    (added-up terms c.args.pass.now.knows c.turns-later.new.pass.knows c.turns-earlier.new.pass.knows c.args.first c.args.goal c.from.result c.turns-later.result c.turns-earlier.result (omega (arith, c.requires.there))
    (c.from.ensures ∙ c.regions-regions.ensures) later c.turns-earlier.ensures.turned).counted

pub returns-clause-all : goal.returns-clause-all
returns-clause-all g c =
    let terms : Terms = c.args.field.now.terms in
    let later : HasTurned terms c.args.pass.now.knows c.turns-later.new.pass.knows c.args.first (region_count terms.setup.now.chart.cut) c.args.goal c.turns-later.result =
    subst (λ n. HasTurned terms c.args.pass.now.knows c.turns-later.new.pass.knows c.args.first n c.args.goal c.turns-later.result) c.regions-regions.ensures c.turns-later.ensures.turned in
    let is = added-up terms c.args.pass.now.knows c.turns-later.new.pass.knows c.turns-earlier.new.pass.knows c.args.first c.args.goal c.from.result c.turns-later.result c.turns-earlier.result
    (omega (arith, c.requires.there)) (c.from.ensures ∙ c.regions-regions.ensures) later c.turns-earlier.ensures.turned in
    (is.all, λ same. true-unless _ (λ not_all. is.not_all not_all same))

pub returns-clause-order : goal.returns-clause-order
returns-clause-order g c =
    order-round c.args.pass.now.knows.tried c.turns-later.new.pass.knows.tried c.turns-earlier.new.pass.knows.tried (region_count c.args.field.now.terms.setup.now.chart.cut) c.regions-regions.result c.args.first
    c.regions-regions.ensures c.turns-later.ensures.order c.turns-earlier.ensures.order

pub returns-clause-told : goal.returns-clause-told
returns-clause-told g c =
    told-more (g.W.Observer.told_held c.args.observer.now (cut_run c.args.field.now.terms.setup.now)) (g.W.Observer.told_freed c.args.observer.now (cut_run c.args.field.now.terms.setup.now)) c.args.pass.now.knows.log c.turns-later.new.pass.knows.log c.turns-earlier.new.pass.knows.log
    c.turns-later.ensures.told c.turns-earlier.ensures.told

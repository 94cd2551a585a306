use Rattle.std.specs.Prelude.{replicate}
use Rattle.std.proofs.Common.{Some, sym, ap, ◌∙◌}
use Rattle.std.proofs.lemmas.Result.{IfOk-weaker}
use Rattle.region_cut.specs.Cuttings.{region_count}
use Rattle.saved_modes.specs.Recutting.{step_of}
use Rattle.saved_modes.proofs.RecutParts.{last-part}
use Rattle.saved_modes.proofs.recutting.part_start.Goals as goal

pub even_start-requires-clause-one_network : goal.even_start-requires-clause-one_network
even_start-requires-clause-one_network c = sym (last-part c.args.layout.now.net c.args.last c.in-Some.regions c.in-Some.is c.requires.last).network

pub even_start-requires-clause-even : goal.even_start-requires-clause-even
even_start-requires-clause-even c = (step_of (Some c.in-Some.regions), (last-part c.args.layout.now.net c.args.last c.in-Some.regions c.in-Some.is c.requires.last).even)

pub returns-in-Some-clause-steps : goal.returns-in-Some-clause-steps
returns-in-Some-clause-steps c =
    let is = last-part c.args.layout.now.net c.args.last c.in-Some.regions c.in-Some.is c.requires.last in
    IfOk-weaker c.even_start.result _ _ (λ start even.
    (even (step_of (Some c.in-Some.regions)) is.even).steps ∙ ap (λ last. replicate (region_count c.args.layout.now.chart.cut) (step_of last)) (sym c.in-Some.is))
    c.even_start.ensures.start

pub returns-in-Some-clause-true_start : goal.returns-in-Some-clause-true_start
returns-in-Some-clause-true_start c =
    let is = last-part c.args.layout.now.net c.args.last c.in-Some.regions c.in-Some.is c.requires.last in
    IfOk-weaker c.even_start.result _ _ (λ start true_start. true_start (step_of (Some c.in-Some.regions)) is.even is.from) c.even_start.ensures.true_start

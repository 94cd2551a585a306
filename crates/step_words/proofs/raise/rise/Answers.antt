use Rattle.std.proofs.Common.{◌<◌, arith, refl, sym, ap, ◌∙◌}
use Rattle.std.specs.Prelude.{slice_index}
use Rattle.step_words.proofs.Steps.{rise-from, rise-lowest, rise-lawful}
use Rattle.step_words.proofs.raise.rise.Goals.{then-step-net-via-then-step-net, then-step-net-via-else-step-net+then-not-is_lowest}
use Rattle.step_words.proofs.raise.rise.Goals as goal

pub returns-then-step-net-clause-exactly : goal.returns-then-step-net-clause-exactly
returns-then-step-net-clause-exactly c =
    let steps = ap (λ net. net.steps) (c.net.view_is ∙ c.net-net.ensures.network) in (
      (λ no. cc),
      λ can. elim c.then-step-net.branch [
        | then-step-net-via-then-step-net w ↦ absurd (omega (arith, can.below, steps, w.if-step-net.true))
        | then-step-net-via-else-step-net+then-not-is_lowest w ↦
            let lowest = rise-lowest c.args.layout.now.net c.args.layout.now.chart.cut c.args.layout.now.chart c.args.steps.now c.args.r c.net-net.ensures.charted c.requires.there can in
            sym w.if-not-is_lowest.true ∙ w.is_lowest.ensures.1 lowest
      ],
    )

pub returns-clause-exactly : goal.returns-clause-exactly
returns-clause-exactly c =
    let steps = ap (λ net. net.steps) (c.net.view_is ∙ c.net-net.ensures.network) in
    let below : slice_index c.args.steps.now c.args.r < c.args.layout.now.net.steps = omega (arith, steps, c.if-step-net.false) in
    let lowest = c.is_lowest.ensures.0 c.if-not-is_lowest.false in
    let can = rise-from c.args.layout.now.net c.args.layout.now.chart.cut c.args.layout.now.chart c.args.steps.now c.args.r c.net-net.ensures.charted c.requires.there below lowest in
    ((λ yes. can), (λ is. refl))

pub returns-clause-lawful : goal.returns-clause-lawful
returns-clause-lawful c =
    rise-lawful c.args.layout.now.net c.args.layout.now.chart.cut c.args.steps.now c.args.r c.requires.there c.requires.steps ((returns-clause-exactly c).0 refl)

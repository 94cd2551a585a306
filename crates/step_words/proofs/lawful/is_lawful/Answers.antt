use Rattle.std.proofs.Common.{◌<◌, arith, refl, sym, ap, ◌∙◌}
use Rattle.region_cut.specs.Cuttings.{region_count}
use Rattle.step_words.proofs.Steps.{lawful-from, lawful-at}
use Rattle.step_words.proofs.lawful.is_lawful.Goals.{then-steps-r-via-then-steps-r, then-steps-r-via-else-steps-r+then-not-is_close}
use Rattle.step_words.proofs.lawful.is_lawful.Goals as goal

pub returns-then-steps-r : goal.returns-then-steps-r
returns-then-steps-r c =
    let steps = ap (λ net. net.steps) (c.net.view_is ∙ c.net-net.ensures.network) in
    let within : c.loop-r.r < region_count c.args.layout.now.chart.cut = omega (arith, c.regions-r-end.ensures.count) in (
      (λ no. cc),
      λ lawful.
          let close = lawful-at c.args.layout.now.net c.args.layout.now.chart.cut c.args.layout.now.chart c.args.steps.now c.loop-r.r c.net-net.ensures.charted lawful within in
          elim c.then-steps-r.branch [
            | then-steps-r-via-then-steps-r w ↦ absurd (omega (arith, close.0, steps, w.if-steps-r.true))
            | then-steps-r-via-else-steps-r+then-not-is_close w ↦ sym w.if-not-is_close.true ∙ w.is_close.ensures.1 close.1
          ],
    )

pub returns : goal.returns
returns c =
    let long = c.if-steps-regions.false ∙ c.regions.ensures.count in
    let lawful = lawful-from c.args.layout.now.net c.args.layout.now.chart.cut c.args.layout.now.chart c.args.steps.now c.net-net.ensures.charted long
    (λ r within. c.loop-r.invariant r (omega (arith, c.regions-r-end.ensures.count))) in
    ((λ yes. lawful), (λ is. refl))

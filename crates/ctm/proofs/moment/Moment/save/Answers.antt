use Rattle.std.specs.Prelude.{IfOk, IsSomeAnd, Ok}
use Rattle.std.proofs.Common.{◌≡◌, List, ℕ, subst, sym, arith, ◌∙◌}
use Rattle.std.proofs.lemmas.Result.{IfOk-weaker}
use Rattle.network_file.specs.Cutting.{IsCutting}
use Rattle.network_file.specs.Network.{Network}
use Rattle.network_file.specs.Sound.{IsNetwork}
use Rattle.network_file.proofs.NetworkFacts.{few_cells}
use Rattle.network_file.specs.Reading.{network_of}
use Rattle.region_step.specs.Start.{zero_start}
use Rattle.saved_run.specs.Laws.{HasTrueStart}
use Rattle.ctm.specs.Moment.{GoesOnTrue, IsFutureOf, MomentValue}
use Rattle.ctm.proofs.Moments.{IsMomentOf, future-true, moment-shot}
use Rattle.ctm.proofs.moment.Moment.save.Goals as goal

pub save-requires-clause-room : goal.save-requires-clause-room
save-requires-clause-room c = rw c.layout-layout.ensures.chart c.self.invariant.0

pub save-requires-clause-few : goal.save-requires-clause-few
save-requires-clause-few c =
    let sound = subst IsNetwork (c.net.view_is ∙ c.net-net.ensures.network) c.net.invariant in
    omega (arith, c.net-net.ensures.one_each, few_cells c.layout-layout.result.now.net sound)

pub returns-clause-own : goal.returns-clause-own
returns-clause-own c =
    let moment : MomentValue = record { net = c.self.inside.setup.net; chart = c.self.inside.setup.chart; room = c.self.inside.room } in
    let one_each = rw (c.layout-layout.ensures.network, c.layout-layout.ensures.chart) at c.net-net.ensures.one_each in
    let is : IsMomentOf moment = record {
      sound = subst IsNetwork (c.net.view_is ∙ c.net-net.ensures.network ∙ c.layout-layout.ensures.network) c.net.invariant;
      cutting = subst (λ cells. IsCutting cells moment.chart.cut) one_each (rw c.layout-layout.ensures.chart at c.regions-regions.ensures.sound.cutting);
      snapshot = c.self.invariant.1;
    } in
    subst (λ (now : MomentValue). IfOk c.save.result (λ text. network_of c.args.file.now ≡ Ok now.net → GoesOnTrue text.items now.net now.chart.cut)) c.self.view_is
    (IfOk-weaker c.save.result _ _ (λ text begins same. begins moment.net (zero_start moment.net moment.chart.cut) (moment-shot moment c.args.file.now is same))
    (rw c.layout-layout.ensures.chart at c.save.ensures.true_start))

pub returns-clause-future : goal.returns-clause-future
returns-clause-future c =
    let moment : MomentValue = record { net = c.self.inside.setup.net; chart = c.self.inside.setup.chart; room = c.self.inside.room } in
    let one_each = rw (c.layout-layout.ensures.network, c.layout-layout.ensures.chart) at c.net-net.ensures.one_each in
    let is : IsMomentOf moment = record {
      sound = subst IsNetwork (c.net.view_is ∙ c.net-net.ensures.network ∙ c.layout-layout.ensures.network) c.net.invariant;
      cutting = subst (λ cells. IsCutting cells moment.chart.cut) one_each (rw c.layout-layout.ensures.chart at c.regions-regions.ensures.sound.cutting);
      snapshot = c.self.invariant.1;
    } in
    subst (λ (now : MomentValue). IfOk c.save.result (λ text. (own : List ℕ) (other : Network) (u : ℕ) → network_of c.args.file.now ≡ Ok other → IsFutureOf now own other u → GoesOnTrue text.items other now.chart.cut)) c.self.view_is
    (IfOk-weaker c.save.result _ _ (λ text reads own other u same future.
    subst (λ found. IsSomeAnd found (λ content. HasTrueStart content other moment.chart.cut)) (sym reads) (future-true moment own c.args.file.now other u is same future))
    (rw c.layout-layout.ensures.chart at c.save.ensures.reads))

use Rattle.std.specs.Vec.Iter.{into_iter_items}
use Rattle.std.proofs.Common.{◌≡◌, ◌+◌, ◌<◌, length, ap, ap₂, arith, refl, rules, subst, sym, ◌∙◌}
use Rattle.std.proofs.lemmas.Result.{IfOk-weaker}
use Rattle.network_file.specs.Network.{Network}
use Rattle.region_cut.specs.Chart.{list_at}
use Rattle.snapshot.specs.Shots.{goal_of}
use Rattle.delay_report.specs.Report.{report_of}
use Rattle.network_run.specs.Telling.{Telling}
use Rattle.network_run.specs.ToldParts.{HasToldPart}
use Rattle.saved_modes.proofs.RecutParts.{come-last, goal-first, goals-rise, last-part, left-next, others-one_each, part-ended, some-part, told-next}
use Rattle.saved_modes.proofs.recutting.recut_report.Goals as goal

pub loop-cut-init : goal.loop-cut-init
loop-cut-init g c = (
  search rules,
  search rules,
  tt,
  sym (goal-first c.args.net.now.steps c.len-parts.result),
  search rules,
  λ k within. absurd (omega (arith, within)),
)

pub loop-cut-preserved-then-goal-step_of : goal.loop-cut-preserved-then-goal-step_of
loop-cut-preserved-then-goal-step_of g c =
    let held : Telling = g.W.Observer.told_held c.args.observer.now in
    let freed : Telling = g.W.Observer.told_freed c.args.observer.now in
    let inv = c.loop-cut.invariant in
    let steps = c.in-Some.ensures.steps in
    let left = left-next (into_iter_items c.loop-cut.cut-iterator) c.args.cuts.items (into_iter_items c.next.new.self) c.in-Some.cut c.loop-cut.i inv.4 steps.0 in (
      omega (arith, inv.0, steps.1),
      others-one_each (length c.args.net.now.cells) (into_iter_items c.loop-cut.cut-iterator) c.in-Some.cut (into_iter_items c.next.new.self) steps.0 inv.1,
      c.in_ok-next_part.ensures.part,
      c.in_ok-next_part.ensures.goal ∙ c.goal_at-goal.ensures.goal,
      left.1,
      told-next held freed c.args.net.now c.len-parts.result c.args.cuts.items c.loop-cut.i c.in-Some.cut _ c.goal_at-goal.result left.0 inv.3 c.goal_at-goal.ensures.goal inv.5
          (λ later. c.in_ok-next_part.ensures.told refl),
    )

pub loop-cut-preserved : goal.loop-cut-preserved
loop-cut-preserved g c =
    let held : Telling = g.W.Observer.told_held c.args.observer.now in
    let freed : Telling = g.W.Observer.told_freed c.args.observer.now in
    let inv = c.loop-cut.invariant in
    let steps = c.in-Some.ensures.steps in
    let left = left-next (into_iter_items c.loop-cut.cut-iterator) c.args.cuts.items (into_iter_items c.next.new.self) c.in-Some.cut c.loop-cut.i inv.4 steps.0 in (
      omega (arith, inv.0, steps.1),
      others-one_each (length c.args.net.now.cells) (into_iter_items c.loop-cut.cut-iterator) c.in-Some.cut (into_iter_items c.next.new.self) steps.0 inv.1,
      inv.2,
      omega (arith, inv.3, c.if-goal-step_of.false, c.step_of.ensures, c.goal_at-goal.ensures.goal, goals-rise c.args.net.now.steps c.len-parts.result c.loop-cut.i (omega (arith, c.requires.some))),
      left.1,
      told-next held freed c.args.net.now c.len-parts.result c.args.cuts.items c.loop-cut.i c.in-Some.cut _ c.goal_at-goal.result left.0 inv.3 c.goal_at-goal.ensures.goal inv.5
          (λ later. absurd (omega (arith, later, c.if-goal-step_of.false, c.step_of.ensures))),
    )

pub unwrap-regions-requires : goal.unwrap-regions-requires
unwrap-regions-requires g c =
    let all : c.loop-cut.i ≡ c.len-parts.result = search rules in
    let come = come-last c.args.net.now.steps c.len-parts.result c.loop-cut.i c.loop-cut.last (omega (arith, c.requires.some)) all c.loop-cut.invariant.3 in
    some-part c.loop-cut.last (omega (arith, come, ap (λ net. net.steps) c.net.view_is, c.net.invariant.some_steps))

pub report-requires-clause-last : goal.report-requires-clause-last
report-requires-clause-last g c =
    let all : c.loop-cut.i ≡ c.len-parts.result = search rules in
    let come = come-last c.args.net.now.steps c.len-parts.result c.loop-cut.i c.loop-cut.last (omega (arith, c.requires.some)) all c.loop-cut.invariant.3 in
    part-ended c.args.net.now c.loop-cut.last c.unwrap-regions.result c.unwrap-regions.ensures (last-part c.args.net.now c.loop-cut.last c.unwrap-regions.result c.unwrap-regions.ensures c.loop-cut.invariant.2) come

pub returns-clause-text : goal.returns-clause-text
returns-clause-text g c =
    let is = last-part c.args.net.now c.loop-cut.last c.unwrap-regions.result c.unwrap-regions.ensures c.loop-cut.invariant.2 in
    IfOk-weaker c.report.result _ _ (λ text recurrences. recurrences is.from.true_start ∙ ap₂ report_of is.network is.unrecorded) c.report.ensures.recurrences

pub returns-clause-told : goal.returns-clause-told
returns-clause-told g c = λ done k within later.
    let held : Telling = g.W.Observer.told_held c.args.observer.now in
    let freed : Telling = g.W.Observer.told_freed c.args.observer.now in
    let parts : c.len-parts.result ≡ length c.args.cuts.items = search rules in
    let all : c.loop-cut.i ≡ c.len-parts.result = search rules in
    let net : Network = c.args.net.now in
    subst (λ n. HasToldPart held freed net (list_at c.args.cuts.items k) (goal_of net.steps n k) (goal_of net.steps n (k + 1))) parts
    (c.loop-cut.invariant.5 k (omega (arith, within, parts, all)) (subst (λ n. goal_of net.steps n k < goal_of net.steps n (k + 1)) (sym parts) later))

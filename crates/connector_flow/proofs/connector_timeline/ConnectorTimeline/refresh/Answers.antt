use Rattle.std.specs.Option.{option_map}
use Rattle.std.specs.Prelude.{Option, Some}
use Rattle.std.proofs.Common.{◌≡◌, ℕ, refl, subst, sym, ap, ◌∙◌, arith}
use Rattle.connector_flow.specs.Limits.{AreInForce, AreKept, limits_in}
use Rattle.connector_flow.specs.Flows.{ConnectorValues, flow_at}
use Rattle.connector_flow.specs.Weights.{AreWeights}
use Rattle.connector_flow.specs.declared.limit_timelines.LimitTimelines.{LimitTimelines}
use Rattle.connector_flow.proofs.Bounding.{in_force-moved, kept-lasting, kept-later, kept-never, limits_in-moved}
use Rattle.connector_flow.proofs.Made.{flow-same}
use Rattle.connector_flow.proofs.connector_timeline.ConnectorTimeline.refresh.Goals.{then-self-t+in-Some, then-self-t+in_default, else-self-t}
use Rattle.connector_flow.proofs.connector_timeline.ConnectorTimeline.refresh.Goals as goal

pub invariant_of-self : goal.invariant_of-self
invariant_of-self c =
    let timeline = c.self.inside in
    let timelines : Option LimitTimelines = option_map (λ own. own.value) timeline.timelines in
    let t : ℕ = c.args.t in
    elim c.if-self-t.branch [
      | then-self-t+in-Some w ↦
          let old : LimitTimelines = w.deref_mut.result.now in
          let now = w.move_to-now.result in
          let has : AreInForce w.in-Some.timelines.value timeline.limits timeline.step timeline.until =
          subst (λ kept. AreKept (option_map (λ own. own.value) kept) timeline.limits timeline.step timeline.until) w.in-Some.is c.self.invariant in
          let weights : AreWeights old.weights = subst (λ one. AreWeights one.weights) (sym w.deref_mut.ensures.value) has.weights in
          rw (w.self-inside-is, w.move_to-now.ensures.moved)
          (in_force-moved old now.value t now.until w.move_to-now.ensures.value w.move_to-now.ensures.steady w.move_to-now.ensures.later weights)
      | then-self-t+in_default w ↦
          rw w.self-inside-is
          (kept-lasting timelines timeline.limits timeline.step t timeline.until (ap (λ kept. option_map (λ own. own.value) kept) w.in_default.is) c.self.invariant
          c.requires.in_time)
      | else-self-t w ↦
          rw w.self-inside-is
          (kept-later timelines timeline.limits timeline.step t timeline.until c.self.invariant
          (omega (arith, c.requires.forward, ap (λ one. one.step) c.self.view_is)) (omega arith))
    ]

pub returns-clause-flow : goal.returns-clause-flow
returns-clause-flow c = λ s n.
    let timeline = c.self.inside in
    let timelines : Option LimitTimelines = option_map (λ own. own.value) timeline.timelines in
    let view : ConnectorValues = record {
      rule = timeline.rule;
      timelines = timelines;
      limits = timeline.limits;
      second_space = timeline.second_space;
      third_space = timeline.third_space;
      step = timeline.step;
      until = timeline.until;
    } in
    elim c.if-self-t.branch [
      | then-self-t+in-Some w ↦
          let old : LimitTimelines = w.deref_mut.result.now in
          let value = w.move_to-now.result.value in
          let limits : limits_in (Some w.move_to-now.new.self) value s ≡ limits_in timelines timeline.limits s =
          ap (λ one. limits_in (Some one) value s) w.move_to-now.ensures.moved ∙ limits_in-moved old timeline.limits value c.args.t s
          ∙ ap (λ one. limits_in (Some one) timeline.limits s) w.deref_mut.ensures.value
          ∙ sym (ap (λ kept. limits_in (option_map (λ own. own.value) kept) timeline.limits s) w.in-Some.is) in
          rw w.self-inside-is (flow-same view _ s n refl refl refl limits ∙ ap (λ one. flow_at one s n) c.self.view_is)
      | then-self-t+in_default w ↦ rw w.self-inside-is (flow-same view _ s n refl refl refl refl ∙ ap (λ one. flow_at one s n) c.self.view_is)
      | else-self-t w ↦ rw w.self-inside-is (flow-same view _ s n refl refl refl refl ∙ ap (λ one. flow_at one s n) c.self.view_is)
    ]

pub returns-clause-later : goal.returns-clause-later
returns-clause-later c =
    let timeline = c.self.inside in
    let timelines : Option LimitTimelines = option_map (λ own. own.value) timeline.timelines in
    let t : ℕ = c.args.t in
    elim c.if-self-t.branch [
      | then-self-t+in-Some w ↦ rw w.self-inside-is w.move_to-now.ensures.later
      | then-self-t+in_default w ↦
          let kept = kept-never timelines timeline.limits timeline.step timeline.until (ap (λ kept. option_map (λ own. own.value) kept) w.in_default.is) c.self.invariant in
          rw w.self-inside-is (omega (arith, kept, c.requires.in_time))
      | else-self-t w ↦ rw w.self-inside-is (omega arith)
    ]

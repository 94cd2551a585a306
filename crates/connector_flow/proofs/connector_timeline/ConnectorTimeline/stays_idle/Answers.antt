use Rattle.std.specs.Option.{option_map}
use Rattle.std.specs.Prelude.{Some, None}
use Rattle.std.proofs.Common.{◌≡◌, ◌≤◌, ◌+◌, sym, ap, subst, ◌∙◌}
use Rattle.connector_flow.specs.Limits.{AreInForce, AreKept, limits_of_timelines}
use Rattle.connector_flow.specs.declared.limit_timelines.LimitTimelines.{LimitTimelines}
use Rattle.connector_flow.proofs.Nothing.{flow-some, flow-stays, weights-in, weights-of}
use Rattle.connector_flow.proofs.connector_timeline.ConnectorTimeline.stays_idle.Goals.{After-least-arg-1}
use Rattle.connector_flow.proofs.connector_timeline.ConnectorTimeline.stays_idle.Goals as goal

pub returns-in-None : goal.returns-in-None
returns-in-None c = λ yes s.
    let none : c.args.self.now.timelines ≡ None =
    sym (ap (λ timeline. timeline.timelines) c.self.view_is) ∙ ap (option_map (λ own. own.value)) c.in-None.is in
    flow-stays c.args.self.now s c.args.self.now.step c.args.n none ∙ c.requires

in-force : (c : After-least-arg-1) → AreInForce c.in-Some.timelines.value c.self.inside.limits c.self.inside.step c.self.inside.until
in-force c =
    let timeline = c.self.inside in
    subst (λ kept. AreKept (option_map (λ own. own.value) kept) timeline.limits timeline.step timeline.until) c.in-Some.is c.self.invariant

pub least-requires-clause-weights : goal.least-requires-clause-weights
least-requires-clause-weights c = rw c.deref.ensures (in-force c).weights

pub least-requires-clause-now : goal.least-requires-clause-now
least-requires-clause-now c =
    let timeline = c.self.inside in
    rw c.deref.ensures (timeline.step, weights-in c.in-Some.timelines.value timeline.limits timeline.step timeline.until (in-force c))

pub returns-in-Some : goal.returns-in-Some
returns-in-Some c = λ yes s.
    let timelines : LimitTimelines = c.in-Some.timelines.value in
    let least : c.least.result ≤ (limits_of_timelines timelines s).weights.0 + (limits_of_timelines timelines s).weights.1 =
    rw (weights-of timelines s) (rw c.deref.ensures at (c.least.ensures s)) in
    let some : c.args.self.now.timelines ≡ Some timelines =
    sym (ap (λ timeline. timeline.timelines) c.self.view_is) ∙ ap (option_map (λ own. own.value)) c.in-Some.is in
    flow-some c.args.self.now timelines s c.args.n some
    ∙ rw (ap (λ one. one.rule) c.self.view_is) at (c.sends_nothing.ensures yes (limits_of_timelines timelines s) c.args.self.now.second_space c.args.self.now.third_space least)

use Rattle.std.specs.Option.{option_map}
use Rattle.std.specs.Prelude.{Option}
use Rattle.std.proofs.Common.{ap, ◌∙◌, arith}
use Rattle.connector_flow.specs.Flows.{ConnectorValues, flow_at}
use Rattle.connector_flow.specs.declared.limit_timelines.LimitTimelines.{LimitTimelines}
use Rattle.connector_flow.proofs.Bounding.{kept-limits}
use Rattle.connector_flow.proofs.Made.{flow-within}
use Rattle.connector_flow.proofs.Nothing.{kept-steady}
use Rattle.connector_flow.specs.declared.connector_timeline.ConnectorTimeline.TheInside.{Inside}
use Rattle.connector_flow.proofs.connector_timeline.ConnectorTimeline.flow.Goals as goal

abbrev view_of : Inside → ConnectorValues
view_of timeline = record {
  rule = timeline.rule;
  timelines = option_map (λ own. own.value) timeline.timelines;
  limits = timeline.limits;
  second_space = timeline.second_space;
  third_space = timeline.third_space;
  step = timeline.step;
  until = timeline.until;
}

pub returns-clause-now : goal.returns-clause-now
returns-clause-now c =
    let timeline = c.self.inside in
    let timelines : Option LimitTimelines = option_map (λ own. own.value) timeline.timelines in
    c.carried.ensures ∙ flow-within (view_of timeline) timeline.limits timeline.step c.args.n (kept-limits timelines timeline.limits timeline.step timeline.until c.self.invariant)
    ∙ ap (λ one. flow_at one one.step c.args.n) c.self.view_is

pub returns-clause-later : goal.returns-clause-later
returns-clause-later c = λ t from before.
    let timeline = c.self.inside in
    let timelines : Option LimitTimelines = option_map (λ own. own.value) timeline.timelines in
    let steady = kept-steady timelines timeline.limits timeline.step timeline.until t c.self.invariant
    (omega (arith, from, ap (λ one. one.step) c.self.view_is)) (omega (arith, before, ap (λ one. one.until) c.self.view_is)) in
    c.carried.ensures ∙ flow-within (view_of timeline) timeline.limits t c.args.n steady ∙ ap (λ one. flow_at one t c.args.n) c.self.view_is

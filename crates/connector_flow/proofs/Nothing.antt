-- Connectors that carry nothing.
use Rattle.std.specs.Prelude.{Option, Some, None, min}
use Rattle.std.proofs.Common.{◌≡◌, ℕ, ◌+◌, ◌*◌, ◌/◌, ◌<◌, ◌≤◌, List, refl, sym, ap, ◌∙◌, arith}
use Rattle.std.proofs.Math.Nat.{div-eq_of_lt, zero-mul}
use Rattle.diverge_rule.specs.Diverge.{diverge_of}
use Rattle.merge_rule.proofs.MergeFacts.{merge_of-room}
use Rattle.flow_model.specs.Flows.{diverge_carries, link_carries, merge_carries}
use Rattle.flow_model.specs.declared.carried.Flow.{Flow}
use Rattle.connector_flow.specs.Limits.{AreInForce, AreKept, limits_of_timelines, limits_in}
use Rattle.connector_flow.specs.Flows.{ConnectorValues, carried_by, flow_at, no_flow}
use Rattle.timelines.specs.Timelines.{value_at}
use Rattle.connector_flow.specs.declared.limit_timelines.LimitTimelines.{LimitTimelines}
use Rattle.connector_flow.specs.declared.limits.Limits.{Limits}

-- by what their cells have to send

pub link-none : (s r : ℕ) → s ≡ 0 → link_carries s r ≡ no_flow
link-none s r none = let carried : min s r ≡ 0 = omega (arith, none) in rw carried refl

pub merge-none : (s1 s2 r p1 p2 : ℕ) → s1 ≡ 0 → s2 ≡ 0 → merge_carries s1 s2 r p1 p2 ≡ no_flow
merge-none s1 s2 r p1 p2 none none_second =
    let room : s1 + s2 ≤ r = omega (arith, none, none_second) in
    rw (merge_of-room s1 s2 r p1 p2 room, none, none_second) refl

nothing-split : (k b1 b2 : ℕ) → k ≡ 0 → ◌≡◌ {A = Flow} (record { out1 = k * (b1 + b2); out2 = 0; in1 = k * b1; in2 = k * b2 }) no_flow
nothing-split k b1 b2 none = rw (none, zero-mul (b1 + b2), zero-mul b1, zero-mul b2) refl

pub diverge-none : (s r1 r2 b1 b2 : ℕ) → s < b1 + b2 → diverge_carries s r1 r2 b1 b2 ≡ no_flow
unfolding diverge_of
diverge-none s r1 r2 b1 b2 few =
    let none : s / (b1 + b2) ≡ 0 = div-eq_of_lt few in
    nothing-split (min (min (s / (b1 + b2)) (r1 / b1)) (r2 / b2)) b1 b2 (omega (arith, none))

-- what bounds a flow stays until its next change
pub kept-steady : (timelines : Option LimitTimelines) (limits : Limits) (step until s : ℕ) → AreKept timelines limits step until → step ≤ s → s < until →
    limits_in timelines limits s ≡ limits
unfolding limits_in
kept-steady None limits step until s has from within = refl
kept-steady (Some timelines) limits step until s has from within = has.steady s from within

-- a connector whose limits never change carries the same in each step
pub flow-stays : (timeline : ConnectorValues) (s t : ℕ) (n : List ℕ) → timeline.timelines ≡ None → flow_at timeline s n ≡ flow_at timeline t n
unfolding flow_at limits_in
flow-stays timeline s t n never = rw never refl

-- the weights of a step are those of its limits
pub weights-of : (timelines : LimitTimelines) (s : ℕ) → (limits_of_timelines timelines s).weights ≡ value_at timelines.weights s
unfolding limits_of_timelines
weights-of timelines s = refl

pub weights-in : (timelines : LimitTimelines) (limits : Limits) (step until : ℕ) → AreInForce timelines limits step until → value_at timelines.weights step ≡ limits.weights
weights-in timelines limits step until has = sym (weights-of timelines step) ∙ ap (λ one. one.weights) (has.steady step (omega arith) has.later)

-- what a connector carries by its timelines
pub flow-some : (timeline : ConnectorValues) (timelines : LimitTimelines) (s : ℕ) (n : List ℕ) → timeline.timelines ≡ Some timelines →
    flow_at timeline s n ≡ carried_by timeline.rule (limits_of_timelines timelines s) timeline.second_space timeline.third_space n
unfolding flow_at limits_in
flow-some timeline timelines s n some = rw some refl

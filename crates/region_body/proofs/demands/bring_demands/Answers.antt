use Rattle.std.proofs.Common.{◌≡◌, ◌<◌, ◌+◌, ◌^◌, ℕ, get_or, length, refl, sym, ap, ◌∙◌, arith}
use Rattle.std.proofs.lemmas.List.{get_or_default, length-set}
use Rattle.cell_sweep.proofs.Sets.{done_more, rest_more}
use Rattle.cell_sweep.specs.CellStates.{cell_state_at, with_entered}
use Rattle.timelines.specs.Timelines.{value_at}
use Rattle.region_body.specs.Gates.{asked, demand_into}
use Rattle.region_body.specs.declared.gate.GatePlace.{GatePlace}
use Rattle.region_body.proofs.MovedStates.{at-one, entered-more, entered-none, entered-room}
use Rattle.region_body.proofs.demands.bring_demands.Goals as goal

pub loop-m-init : goal.loop-m-init
loop-m-init c = record {
  long = refl;
  done = λ k d before. absurd (omega (arith, before));
  rest = λ k d past. refl;
  states = λ p within. entered-none (cell_state_at c.args.states.now p);
}

pub bring_demand-requires-clause-step : goal.bring_demand-requires-clause-step
bring_demand-requires-clause-step c =
    let j : ℕ = c.loop-m.m in
    let d0 : GatePlace = c.index-gates-m.result in
    let has = c.loop-m.invariant in
    rw (← has.rest j d0 (omega arith)) at (c.requires.step j d0 (omega (arith, has.long)))

pub bring_demand-requires-clause-there : goal.bring_demand-requires-clause-there
bring_demand-requires-clause-there c =
    let j : ℕ = c.loop-m.m in
    let d0 : GatePlace = c.index-gates-m.result in
    let has = c.loop-m.invariant in
    let there = c.requires.there j d0 (omega (arith, has.long)) in
    let same = ap (λ gate. gate.place) (has.rest j d0 (omega arith)) in
    omega (arith, there, same)

pub bring_demand-requires-clause-fits : goal.bring_demand-requires-clause-fits
bring_demand-requires-clause-fits c =
    let t : ℕ = c.args.t in
    let first = c.args.gates.now in
    let j : ℕ = c.loop-m.m in
    let d0 : GatePlace = c.index-gates-m.result in
    let gate : GatePlace = get_or c.loop-m.gates j d0 in
    let has = c.loop-m.invariant in
    let same : get_or first j d0 ≡ gate = sym (has.rest j d0 (omega arith)) in
    let there = c.requires.there j d0 (omega (arith, has.long)) in
    let place = ap (λ one. one.place) same in
    let q : ℕ = gate.place in
    let fits : (cell_state_at c.loop-m.states q).n + demand_into t q gate < 2 ^ 64 =
    rw same at (entered-room (demand_into t q) first j d0 (cell_state_at c.args.states.now q) (cell_state_at c.loop-m.states q) (omega (arith, has.long))
    (has.states q (omega (arith, there, place))) (c.requires.fits q (omega (arith, there, place)))) in
    omega (arith, fits, at-one q (value_at gate.timeline t))

pub loop-m-preserved : goal.loop-m-preserved
loop-m-preserved c =
    let t : ℕ = c.args.t in
    let first = c.args.gates.now in
    let j : ℕ = c.loop-m.m in
    let d0 : GatePlace = c.index-gates-m.result in
    let gate : GatePlace = get_or c.loop-m.gates j d0 in
    let has = c.loop-m.invariant in
    let within : j < length first = omega (arith, has.long) in
    let read : (d : GatePlace) → get_or first j d ≡ gate =
    λ d. sym (has.rest j d (omega arith)) ∙ get_or_default c.loop-m.gates j d d0 (omega (arith, has.long)) in
    let new = c.bring_demand.ensures.gate in
    record {
      long = length-set c.loop-m.gates j c.bring_demand.new.gate ∙ has.long;
      done = λ k d before. done_more (λ k. asked t (get_or first k d)) c.loop-m.gates j c.bring_demand.new.gate d (omega (arith, has.long)) (new ∙ ap (asked t) (sym (read d))) (λ k lt. has.done k d lt) k before;
      rest = λ k d past. rest_more (λ k. get_or first k d) c.loop-m.gates j c.bring_demand.new.gate d (λ k from. has.rest k d from) k past;
      states = λ p below.
          entered-more (demand_into t p) first j d0 (cell_state_at c.args.states.now p) (cell_state_at c.loop-m.states p) (cell_state_at c.bring_demand.new.states p) within
          (has.states p (omega arith)) (c.bring_demand.ensures.states p (omega arith) ∙ ap (λ one. with_entered (cell_state_at c.loop-m.states p) (demand_into t p one)) (sym (read d0)));
    }

use Rattle.std.specs.Prelude.{All}
use Rattle.std.proofs.Common.{◌≡◌, ℕ, ◌<◌, List, length, get_or, set, sym, ◌∙◌, subst, arith}
use Rattle.std.proofs.lemmas.List.{get_or_default, take_all}
use Rattle.std.proofs.lemmas.List.Elements.{All-more}
use Rattle.timelines.specs.Timelines.{value_at}
use Rattle.region_body.specs.Gates.{AreGatesKept, asked}
use Rattle.region_body.specs.declared.gate.GatePlace.{GatePlace}
use Rattle.region_body.proofs.Gates.{kept-none, kept-set}
use Rattle.region_body.proofs.demands.nothing_demanded.Goals as goal

-- one more of them is asked
kept-asked : (t : ℕ) (first gates : List GatePlace) (m : ℕ) (gate d0 : GatePlace) → AreGatesKept t first gates → m < length first → gate ≡ asked t (get_or gates m d0) →
    AreGatesKept t first (set gates m gate)
kept-asked t first gates m gate d0 kept within is =
    kept-set t first gates m gate kept within (λ d.
    let one = kept.each m d0 within in
    let same : get_or first m d ≡ get_or first m d0 = get_or_default first m d d0 within in
    rw (is, same) (record { place = one.place; demand = λ s. one.demand s; step = omega arith }))

pub loop-m-init : goal.loop-m-init
loop-m-init c = record {
  kept = kept-none c.args.t c.args.gates.now c.requires.step;
  nothing = λ k d within. absurd (omega (arith, within));
}

pub loop-m-preserved : goal.loop-m-preserved
loop-m-preserved c =
    let m : ℕ = c.loop-m.m in
    let d0 : GatePlace = c.index-gates-m.result in
    let one = c.loop-m.invariant.kept.each m d0 c.loop-m-test.true in
    record {
      kept = kept-asked c.args.t c.args.gates.now c.loop-m.gates m c.demanded.new.gate d0 c.loop-m.invariant.kept c.loop-m-test.true c.demanded.ensures.gate;
      nothing = All-more (λ gate. value_at gate.timeline c.args.t ≡ 0) c.args.gates.now m d0 c.loop-m-test.true c.loop-m.invariant.nothing
          (sym (one.demand c.args.t) ∙ sym c.demanded.ensures.amount ∙ c.if-demanded-ne0.false);
    }

pub returns-then-demanded-ne0 : goal.returns-then-demanded-ne0
returns-then-demanded-ne0 c = record {
  gates = kept-asked c.args.t c.args.gates.now c.loop-m.gates c.loop-m.m c.demanded.new.gate c.index-gates-m.result c.loop-m.invariant.kept c.loop-m-test.true c.demanded.ensures.gate;
  nothing = λ no. absurd cc;
}

pub returns : goal.returns
returns c = record {
  gates = c.loop-m.invariant.kept;
  nothing = λ yes. subst (All (λ gate. value_at gate.timeline c.args.t ≡ 0)) (take_all c.loop-m.m c.args.gates.now (omega (arith, c.loop-m-test.false))) c.loop-m.invariant.nothing;
}

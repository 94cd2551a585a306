use Rattle.std.specs.Prelude.{map}
use Rattle.std.proofs.Common.{◌≡◌, ℕ, ◌+◌, List, ◌++◌, true, false, append_assoc, arith, ap, length, sym, ◌∙◌}
use Rattle.net_make.specs.Draws.{draw, state_after}
use Rattle.net_make.specs.Made.{demands, has_on_ramp, on_ramps, ramp_demand, text_of}
use Rattle.net_make.proofs.LineOrder.{count-passing-yes, ended, passing-no, text-passing-yes}
use Rattle.net_make.proofs.demands.put_demands.Goals as goal
use Rattle.net_make.proofs.demands.put_demands.Goals.{then-has_on_ramp+in_ok-put_ramp_demand, else-has_on_ramp}

pub loop-i-preserved : goal.loop-i-preserved
loop-i-preserved c = λ seed here.
    let i = c.loop-i.i in
    let line : ℕ → List ℕ = λ i. ramp_demand (draw seed (1 + length (on_ramps i))) i in
    let so_far = c.loop-i.invariant seed here in
    elim c.if-has_on_ramp.branch [
      | then-has_on_ramp+in_ok-put_ramp_demand w ↦
          let passes : has_on_ramp i ≡ true = sym c.has_on_ramp.ensures ∙ w.if-has_on_ramp.true in
          let one_more : 1 + length (on_ramps i) + 1 ≡ 1 + length (on_ramps (i + 1)) = omega (arith, count-passing-yes has_on_ramp i passes) in
          let drawn = w.draw-then-has_on_ramp.ensures.drawn seed (1 + length (on_ramps i)) so_far.0 in (
            ap (λ draws. draws.state) w.draws-is ∙ w.draw-then-has_on_ramp.ensures.next seed (1 + length (on_ramps i)) so_far.0 ∙ ap (state_after seed) one_more,
            ap (λ text. text.items) w.text-is ∙
                text-passing-yes line has_on_ramp i c.put_main_demand.new.text.items c.loop-i.text.items w.put_ramp_demand.new.text.items passes so_far.1
                (w.in_ok-put_ramp_demand.ensures ∙ append_assoc c.loop-i.text.items _ _ ∙ ap (λ drawn. c.loop-i.text.items ++ ended (ramp_demand drawn i)) drawn),
          )
      | else-has_on_ramp w ↦
          let fails : has_on_ramp i ≡ false = sym c.has_on_ramp.ensures ∙ w.if-has_on_ramp.false in
          let no_more = passing-no has_on_ramp i fails in (
            ap (λ draws. draws.state) w.draws-is ∙ so_far.0 ∙ ap (λ ramps. state_after seed (1 + length ramps)) (sym no_more),
            ap (λ text. text.items) w.text-is ∙ so_far.1 ∙ ap (λ ramps. c.put_main_demand.new.text.items ++ text_of (map line ramps)) (sym no_more),
          )
    ]

pub returns-clause-text : goal.returns-clause-text
unfolding demands
returns-clause-text c = λ seed here.
    let all : c.loop-i.i ≡ c.args.size = omega arith in
    let so_far = c.loop-i.invariant seed (c.draw.ensures.next seed 0 here) in
    rw (so_far.1, all, c.in_ok-put_main_demand.ensures, c.draw.ensures.drawn seed 0 here) (simp append_assoc)

use Rattle.std.specs.Prelude.{Bool, ◌%◌, ◌==◌, ◌&&◌, map, nat_lt}
use Rattle.std.proofs.Common.{◌≡◌, ℕ, ◌+◌, List, ◌++◌, true, false, append_assoc, arith, ap, length, refl, sym, ◌∙◌}
use Rattle.net_make.specs.Draws.{draw, state_after}
use Rattle.net_make.specs.Made.{on_ramps, signal_line, signal_lines, signals, text_of}
use Rattle.net_make.proofs.LineOrder.{count-passing-yes, ended, passing-no, text-passing-yes}
use Rattle.net_make.proofs.signals.put_signals.Goals as goal
use Rattle.net_make.proofs.signals.put_signals.Goals.{then-has_signal+in_ok-put_signal, else-has_signal}

-- a main cell with a signal
abbrev has_signal : (i : ℕ) → Bool
has_signal i = i % 8 == 0 && nat_lt 0 i

pub loop-i-preserved : goal.loop-i-preserved
loop-i-preserved c = λ seed here.
    let i = c.loop-i.i in
    let before : ℕ = 1 + length (on_ramps c.args.size) in
    let line : ℕ → List ℕ = λ i. signal_line (draw seed (1 + length (on_ramps c.args.size) + length (signals i))) i in
    let so_far = c.loop-i.invariant seed here in
    elim c.if-has_signal.branch [
      | then-has_signal+in_ok-put_signal w ↦
          let passes : has_signal i ≡ true = sym c.has_signal.ensures ∙ w.if-has_signal.true in
          let one_more : before + length (signals i) + 1 ≡ before + length (signals (i + 1)) = omega (arith, count-passing-yes has_signal i passes) in
          let drawn = w.draw.ensures.drawn seed (before + length (signals i)) so_far.0 in (
            ap (λ draws. draws.state) w.draws-is ∙ w.draw.ensures.next seed (before + length (signals i)) so_far.0 ∙ ap (state_after seed) one_more,
            ap (λ text. text.items) w.text-is ∙
                text-passing-yes line has_signal i c.args.text.now.items c.loop-i.text.items w.put_signal.new.text.items passes so_far.1
                (w.in_ok-put_signal.ensures ∙ append_assoc c.loop-i.text.items _ _ ∙ ap (λ drawn. c.loop-i.text.items ++ ended (signal_line drawn i)) drawn),
          )
      | else-has_signal w ↦
          let fails : has_signal i ≡ false = sym c.has_signal.ensures ∙ w.if-has_signal.false in
          let no_more = passing-no has_signal i fails in (
            ap (λ draws. draws.state) w.draws-is ∙ so_far.0 ∙ ap (λ cells. state_after seed (before + length cells)) (sym no_more),
            ap (λ text. text.items) w.text-is ∙ so_far.1 ∙ ap (λ cells. c.args.text.now.items ++ text_of (map line cells)) (sym no_more),
          )
    ]

pub returns-clause-text : goal.returns-clause-text
unfolding signal_lines
returns-clause-text c = λ seed here.
    let all : c.loop-i.i ≡ c.args.size = omega arith in
    rw ((c.loop-i.invariant seed here).1, all) refl

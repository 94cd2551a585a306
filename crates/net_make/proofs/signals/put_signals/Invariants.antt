use Rattle.std.specs.Prelude.{map}
use Rattle.std.proofs.Common.{◌≡◌, ℕ, ◌+◌, ◌++◌, length}
use Rattle.net_make.specs.Draws.{draw, state_after}
use Rattle.net_make.specs.Made.{on_ramps, signal_line, signals, text_of}
use Rattle.net_make.proofs.signals.put_signals.Given as goal

-- the signals before i are written, each by its draw
abbrev pub invariant-loop-i : goal.invariant-loop-i
invariant-loop-i l = (seed : ℕ) → l.initial.draws.state ≡ state_after seed (1 + length (on_ramps l.size)) →
    (l.draws.state ≡ state_after seed (1 + length (on_ramps l.size) + length (signals l.i)))
    × (l.text.items ≡ l.initial.text.items ++ text_of (map (λ i. signal_line (draw seed (1 + length (on_ramps l.size) + length (signals i))) i) (signals l.i)))

use Rattle.std.specs.Prelude.{map}
use Rattle.std.proofs.Common.{◌≡◌, ℕ, ◌+◌, ◌++◌, length}
use Rattle.net_make.specs.Draws.{draw, state_after}
use Rattle.net_make.specs.Made.{on_ramps, ramp_demand, text_of}
use Rattle.net_make.proofs.demands.put_demands.Given as goal

-- the demands of the on-ramps before i are written, each by its draw
abbrev pub invariant-loop-i : goal.invariant-loop-i
invariant-loop-i l = (seed : ℕ) → l.initial.draws.state ≡ state_after seed 1 →
    (l.draws.state ≡ state_after seed (1 + length (on_ramps l.i)))
    × (l.text.items ≡ l.initial.text.items ++ text_of (map (λ i. ramp_demand (draw seed (1 + length (on_ramps i))) i) (on_ramps l.i)))

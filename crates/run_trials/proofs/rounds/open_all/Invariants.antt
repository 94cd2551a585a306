use Rattle.std.specs.Prelude.{slice_index_or}
use Rattle.std.proofs.Common.{◌≡◌, ℕ, ◌<◌, length}
use Rattle.run_trials.specs.Rounds.{IsAt}
use Rattle.run_trials.proofs.rounds.open_all.Given as goal

abbrev pub invariant-loop-r : goal.invariant-loop-r
invariant-loop-r g l = (length l.bodies.items ≡ l.r) ×
    ((q : ℕ) (body : _) → q < l.r → g.B.Body.is_in l.layout.net l.layout.chart (slice_index_or l.bodies.items q body) × IsAt l.layout.net l.layout.chart q 0 (g.B.Body.state (slice_index_or l.bodies.items q body)))

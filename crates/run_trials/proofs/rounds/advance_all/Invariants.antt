use Rattle.std.specs.Prelude.{slice_index_or}
use Rattle.std.proofs.Common.{◌≡◌, ℕ, ◌+◌, ◌<◌, ◌≤◌, length}
use Rattle.region_cut.specs.Chart.{list_at}
use Rattle.region_cut.specs.Cuttings.{region_count}
use Rattle.run_trials.specs.Rounds.{IsAt, IsTold}
use Rattle.run_trials.proofs.rounds.advance_all.Given as goal

abbrev pub invariant-loop-r : goal.invariant-loop-r
invariant-loop-r g l = record {
  one_each : length l.bodies ≡ region_count l.layout.chart.cut;
  done : (q : ℕ) (body : _) → q < l.r →
      g.B.Body.is_in l.layout.net l.layout.chart (slice_index_or l.bodies q body) × IsAt l.layout.net l.layout.chart q (l.t + 1) (g.B.Body.state (slice_index_or l.bodies q body));
  left : (q : ℕ) (body : _) → l.r ≤ q → q < length l.bodies →
      g.B.Body.is_in l.layout.net l.layout.chart (slice_index_or l.bodies q body) × IsAt l.layout.net l.layout.chart q l.t (g.B.Body.state (slice_index_or l.bodies q body)) ×
      IsTold l.layout.net l.layout.chart (length (list_at l.layout.chart.halo q)) (g.B.Body.state (slice_index_or l.bodies q body));
}

use Rattle.std.specs.Prelude.{slice_index_or}
use Rattle.std.proofs.Common.{◌≡◌, ◌≢◌, ℕ}
use Rattle.run_trials.specs.Rounds.{AllAt, IsTold}
use Rattle.run_trials.proofs.rounds.tell_halo.Given as goal

abbrev pub invariant-loop-j : goal.invariant-loop-j
invariant-loop-j g l = record {
  at : AllAt (g.B.Body.is_in l.layout.net l.layout.chart) g.B.Body.state l.layout.net l.layout.chart l.t l.bodies;
  told : (body : _) → IsTold l.layout.net l.layout.chart l.j (g.B.Body.state (slice_index_or l.bodies l.r body));
  others : (q : ℕ) (body : _) → q ≢ l.r → slice_index_or l.bodies q body ≡ slice_index_or l.initial.bodies q body;
}

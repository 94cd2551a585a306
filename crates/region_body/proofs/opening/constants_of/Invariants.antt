use Rattle.std.specs.Prelude.{slice_index}
use Rattle.std.proofs.Common.{◌≡◌, ◌<◌, ℕ, length}
use Rattle.region_body.specs.First.{AreConstantsOf}
use Rattle.region_body.specs.Rows.{constants_at}
use Rattle.region_body.proofs.opening.constants_of.Given as goal

abbrev pub invariant-loop-i : goal.invariant-loop-i
invariant-loop-i l = record {
  long : length l.constants.items ≡ l.i-index;
  each : (p : ℕ) → p < l.i-index → AreConstantsOf l.net (slice_index l.cells p) (constants_at l.constants.items p);
}

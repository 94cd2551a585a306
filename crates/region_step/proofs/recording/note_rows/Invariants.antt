use Rattle.std.specs.Prelude.{vec_capacity}
use Rattle.std.proofs.Common.{◌≡◌, ◌≤◌, ◌++◌, take}
use Rattle.region_step.specs.Ordered.{rows_in}
use Rattle.region_step.specs.Noting.{notes_of}
use Rattle.region_step.proofs.recording.note_rows.Given as goal

abbrev pub invariant-loop-i : goal.invariant-loop-i
invariant-loop-i l = record {
  notes : l.trail.items ≡ l.initial.trail.items ++ notes_of (take l.i (rows_in l.cells));
  room : vec_capacity l.initial.trail ≤ vec_capacity l.trail;
}

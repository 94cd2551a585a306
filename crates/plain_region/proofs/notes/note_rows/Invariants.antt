use Rattle.std.specs.Prelude.{vec_capacity}
use Rattle.std.proofs.Common.{◌≡◌, ◌≤◌, ◌++◌, take}
use Rattle.region_step.specs.Noting.{notes_of}
use Rattle.plain_region.proofs.notes.note_rows.Given as goal

abbrev pub invariant-loop-row : goal.invariant-loop-row
invariant-loop-row l =
    (l.trail.items ≡ l.initial.trail.items ++ notes_of (take l.row-index l.rows)) × (vec_capacity l.initial.trail ≤ vec_capacity l.trail)

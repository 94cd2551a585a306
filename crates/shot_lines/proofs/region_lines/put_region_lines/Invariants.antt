use Rattle.std.specs.Prelude.{slice_index}
use Rattle.std.proofs.Common.{◌≡◌, ◌++◌}
use Rattle.line_fields.specs.Fields.{lines_of}
use Rattle.shot_lines.specs.ShotText.{region_line}
use Rattle.shot_lines.proofs.region_lines.put_region_lines.Given as goal

-- the lines of the regions before r
abbrev pub invariant-loop-r : goal.invariant-loop-r
invariant-loop-r l = l.text.items ≡ l.initial.text.items ++ lines_of (λ r. region_line r (slice_index l.steps r)) l.r

use Rattle.std.specs.Prelude.{slice_index}
use Rattle.std.proofs.Common.{◌≡◌, ◌++◌}
use Rattle.line_fields.specs.Fields.{lines_of}
use Rattle.workerless_modes.specs.ChooseMode.{plan_line}
use Rattle.workerless_modes.proofs.choose_mode.put_plan_lines.Given as goal

-- the lines of the plans before p
abbrev pub invariant-loop-p : goal.invariant-loop-p
invariant-loop-p l = l.text.items ≡ l.initial.text.items ++ lines_of (λ p. plan_line p (slice_index l.delays p)) l.p

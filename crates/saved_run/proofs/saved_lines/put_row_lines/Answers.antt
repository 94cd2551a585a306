use Rattle.std.proofs.Common.{rules, append_assoc, arith, subst, below_more}
use Rattle.line_fields.proofs.Lines.{lines_of-more, lines_of-none}
use Rattle.saved_run.specs.Content.{IsRowLine}
use Rattle.saved_run.proofs.saved_lines.put_row_lines.Goals as goal

pub loop-i-init : goal.loop-i-init
loop-i-init c = record { lines = rw lines_of-none (search rules); numbers = λ k below. absurd (omega (arith, below)) }

pub loop-i-preserved : goal.loop-i-preserved
loop-i-preserved c = record {
  lines = rw (c.in_ok-put_row_line.ensures, c.loop-i.invariant.lines, lines_of-more, c.line_of.ensures.line) (simp append_assoc);
  numbers = below_more _ _ c.loop-i.invariant.numbers (subst IsRowLine c.line_of.ensures.line c.line_of.ensures.numbers);
}

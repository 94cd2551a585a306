use Rattle.std.proofs.Common.{◌≡◌, length, rules, append_assoc, arith, refl}
use Rattle.std.proofs.Transfers.{starts_with_of_append, starts_with_trans}
use Rattle.line_fields.proofs.Lines.{lines_of-more, lines_of-none}
use Rattle.shot_lines.proofs.region_lines.put_region_lines.Goals as goal

pub loop-r-init : goal.loop-r-init
loop-r-init c = rw lines_of-none (search rules)

pub loop-r-preserved : goal.loop-r-preserved
loop-r-preserved c = rw (c.in_ok-put_region_line.ensures.line, c.loop-r.invariant, lines_of-more) (simp append_assoc)

pub returns-in_err-put_region_line-clause-kept : goal.returns-in_err-put_region_line-clause-kept
returns-in_err-put_region_line-clause-kept c =
    starts_with_trans _ _ _ c.in_err-put_region_line.ensures.kept (starts_with_of_append _ _ _ c.loop-r.invariant)

pub returns-clause-kept : goal.returns-clause-kept
returns-clause-kept c = starts_with_of_append _ _ _ c.loop-r.invariant

pub returns-clause-lines : goal.returns-clause-lines
returns-clause-lines c =
    let all : c.loop-r.r ≡ length c.args.steps.now = omega arith in
    rw (c.loop-r.invariant, all) refl

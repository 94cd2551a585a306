use Rattle.std.proofs.Common.{◌≡◌, length, rules, append_assoc, arith, refl}
use Rattle.line_fields.proofs.Lines.{lines_of-more, lines_of-none}
use Rattle.workerless_modes.proofs.choose_mode.put_plan_lines.Goals as goal

pub loop-p-init : goal.loop-p-init
loop-p-init c = rw lines_of-none (search rules)

pub loop-p-preserved : goal.loop-p-preserved
loop-p-preserved c = rw (c.in_ok-put_plan_line.ensures, c.loop-p.invariant, lines_of-more) (simp append_assoc)

pub returns : goal.returns
returns c =
    let all : c.loop-p.p ≡ length c.args.delays.now = omega arith in
    rw (c.loop-p.invariant, all) refl

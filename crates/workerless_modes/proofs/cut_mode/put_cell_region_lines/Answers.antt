use Rattle.std.proofs.Common.{◌≡◌, length, rules, append_assoc, arith, refl}
use Rattle.network_file.proofs.NetworkFacts.{name_at-read}
use Rattle.line_fields.proofs.Lines.{lines_of-more, lines_of-none}
use Rattle.workerless_modes.proofs.cut_mode.put_cell_region_lines.Goals as goal

pub loop-i-init : goal.loop-i-init
loop-i-init c = rw lines_of-none (search rules)

pub loop-i-preserved : goal.loop-i-preserved
loop-i-preserved c =
    let name = name_at-read c.args.cells.now c.loop-i.i _ c.loop-i-test.true c.index-cells-i.is in
    rw (c.in_ok-put_cell_region_line.ensures, c.loop-i.invariant, lines_of-more, name) (simp append_assoc)

pub returns : goal.returns
returns c =
    let all : c.loop-i.i ≡ length c.args.cells.now = omega arith in
    rw (c.loop-i.invariant, all) refl

use Rattle.std.proofs.Common.{◌≡◌, length, rules, append_assoc, arith, ap, refl, ◌∙◌}
use Rattle.network_file.proofs.NetworkFacts.{name_at-read}
use Rattle.line_fields.proofs.Lines.{lines_of-more, lines_of-none}
use Rattle.delay_report.specs.FromStart.{grid_note}
use Rattle.delay_report.proofs.note_lines.put_step_lines.Goals as goal

pub loop-i-init : goal.loop-i-init
loop-i-init c = rw lines_of-none (search rules)

pub loop-i-preserved : goal.loop-i-preserved
loop-i-preserved c =
    let name = name_at-read c.args.cells.now c.loop-i.i _ c.loop-i-test.true c.index-cells-i.is in
    let setup = c.args.by_cell.now.setup in
    let noted = c.note.ensures ∙ ap (λ t. grid_note setup.net setup.chart.cut setup.start t c.loop-i.i) c.requires.step.1 in
    rw (c.in_ok-put_note_line.ensures, c.loop-i.invariant, lines_of-more, name, noted) (simp append_assoc)

pub returns : goal.returns
returns c =
    let all : c.loop-i.i ≡ length c.args.cells.now = omega arith in
    rw (c.loop-i.invariant, all) refl

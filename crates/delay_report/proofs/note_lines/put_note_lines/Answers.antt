use Rattle.std.proofs.Common.{◌≡◌, [], ◌∷◌, ◌++◌, append-nil, append_assoc, length, arith, ap, refl, sym, ◌∙◌}
use Rattle.std.proofs.lemmas.List.{length-append}
use Rattle.region_step.specs.Setup.{SetupValue}
use Rattle.delay_report.specs.FromStart.{grid_note}
use Rattle.delay_report.specs.Report.{note_lines, step_lines}
use Rattle.delay_report.proofs.Lines.{note_lines-more, note_lines-none}
use Rattle.delay_report.proofs.RecordedSteps.{before, before-all, before-no, before-yes, stands-among}
use Rattle.delay_report.proofs.note_lines.put_note_lines.Goals as goal
use Rattle.delay_report.proofs.note_lines.put_note_lines.Goals.{then-is_recorded+in_ok-put_step_lines, else-is_recorded}

pub loop-t-init : goal.loop-t-init
loop-t-init c =
    let setup : SetupValue = c.args.by_cell.now.setup in
    record {
      few = omega arith;
      count = refl;
      lines = sym (ap (λ lines. c.args.text.now.items ++ lines) (note_lines-none setup.net.cells (grid_note setup.net setup.chart.cut setup.start)) ∙ append-nil c.args.text.now.items);
    }

pub put_step_lines-requires-clause-step : goal.put_step_lines-requires-clause-step
put_step_lines-requires-clause-step c =
    let setup : SetupValue = c.args.by_cell.now.setup in
    let now = c.setup-setup.ensures.setup ∙ ap (λ now. now.setup) c.by_cell.view_is in
    let steps = ap (λ net. net.steps) (c.net.view_is ∙ c.net-net.ensures.network ∙ c.layout.ensures.network ∙ ap (λ setup. setup.net) now) in
    let told = rw (steps, c.every-every.ensures ∙ ap (λ setup. setup.every) now) at c.is_recorded.ensures in
    rw c.loop-t.invariant.count (stands-among setup.net.steps setup.every c.loop-t.t (omega (arith, c.loop-t-test.true, steps)) (sym told ∙ c.if-is_recorded.true))

pub loop-t-preserved : goal.loop-t-preserved
loop-t-preserved c =
    let setup : SetupValue = c.args.by_cell.now.setup in
    let note = grid_note setup.net setup.chart.cut setup.start in
    let now = c.setup-setup.ensures.setup ∙ ap (λ now. now.setup) c.by_cell.view_is in
    let net = c.net.view_is ∙ c.net-net.ensures.network ∙ c.layout.ensures.network ∙ ap (λ setup. setup.net) now in
    let told = rw (ap (λ net. net.steps) net, c.every-every.ensures ∙ ap (λ setup. setup.every) now) at c.is_recorded.ensures in
    elim c.if-is_recorded.branch [
      | then-is_recorded+in_ok-put_step_lines w ↦
          let one_more = before-yes setup.net.steps setup.every c.loop-t.t (sym told ∙ w.if-is_recorded.true) in
          let cells : w.deref.result.now ≡ setup.net.cells = w.deref.ensures.value ∙ ap (λ net. net.cells) net in
          record {
            few = omega (arith, w.k-is, c.loop-t.invariant.few);
            count = w.k-is ∙ omega (arith, c.loop-t.invariant.count, ap length one_more, length-append (before setup.net.steps setup.every c.loop-t.t) (c.loop-t.t ∷ []));
            lines = ap (λ text. text.items) w.text-is ∙ w.in_ok-put_step_lines.ensures ∙
                ap (λ cells. c.loop-t.text.items ++ step_lines cells (note c.loop-t.t) c.loop-t.t) cells ∙
                ap (λ begun. begun ++ step_lines setup.net.cells (note c.loop-t.t) c.loop-t.t) c.loop-t.invariant.lines ∙
                append_assoc c.args.text.now.items (note_lines setup.net.cells note (before setup.net.steps setup.every c.loop-t.t)) (step_lines setup.net.cells (note c.loop-t.t) c.loop-t.t) ∙
                ap (λ lines. c.args.text.now.items ++ lines)
                (sym (note_lines-more setup.net.cells note (before setup.net.steps setup.every c.loop-t.t) c.loop-t.t) ∙ ap (note_lines setup.net.cells note) (sym one_more));
          }
      | else-is_recorded w ↦
          let no_more = before-no setup.net.steps setup.every c.loop-t.t (sym told ∙ w.if-is_recorded.false) in
          record {
            few = omega (arith, w.k-is, c.loop-t.invariant.few);
            count = w.k-is ∙ c.loop-t.invariant.count ∙ sym (ap length no_more);
            lines = ap (λ text. text.items) w.text-is ∙ c.loop-t.invariant.lines ∙ ap (λ list. c.args.text.now.items ++ note_lines setup.net.cells note list) (sym no_more);
          }
    ]

pub returns : goal.returns
returns c =
    let setup : SetupValue = c.args.by_cell.now.setup in
    let now = c.setup-setup.ensures.setup ∙ ap (λ now. now.setup) c.by_cell.view_is in
    let steps = ap (λ net. net.steps) (c.net.view_is ∙ c.net-net.ensures.network ∙ c.layout.ensures.network ∙ ap (λ setup. setup.net) now) in
    let whole = before-all setup.net.steps setup.every c.loop-t.t (omega (arith, c.loop-t-test.false, c.loop-t.auto.t-end, steps)) in
    c.loop-t.invariant.lines ∙ ap (λ list. c.args.text.now.items ++ note_lines setup.net.cells (grid_note setup.net setup.chart.cut setup.start) list) whole
